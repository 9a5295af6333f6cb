use Rattle.chi_transactions.proofs.RowLaws.{own_data, own_request, own_response}
use Rattle.chi_transactions.proofs.laws.rows_are_of_their_opcodes.Goals as goal

pub returns-clause-requests : goal.returns-clause-requests
returns-clause-requests c = own_request

pub returns-clause-responses : goal.returns-clause-responses
returns-clause-responses c = own_response

pub returns-clause-data_flits : goal.returns-clause-data_flits
returns-clause-data_flits c = own_data

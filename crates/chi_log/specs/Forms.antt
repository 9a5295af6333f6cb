-- Which columns a line has, by its opcode (docs/TRACES.md, "Traces" and "Other opcodes").
use Rattle.std.specs.Prelude.{Bool, if◌then◌else◌}
use Rattle.std.specs.List.{slice_index_or}
use Rattle.chi_issue_b.specs.declared.channels.Channel.TheVariants as channels
use Rattle.chi_issue_b.specs.declared.channels.Channel.{Channel}
use Rattle.chi_issue_b.specs.declared.opcodes.Opcode.{Opcode}
use Rattle.chi_issue_b.specs.declared.opcodes.Opcode.TheVariants.{Req, Snp, Rsp, Dat}
use Rattle.chi_issue_b.specs.declared.opcodes.RequestOpcode.{RequestOpcode}
use Rattle.chi_issue_b.specs.declared.opcodes.RequestOpcode.TheVariants.{PCrdReturn}
use Rattle.chi_issue_b.specs.declared.opcodes.ResponseOpcode.TheVariants.{SnpRespFwded}
use Rattle.chi_issue_b.specs.declared.opcodes.DataOpcode.TheVariants.{WriteDataCancel}
use Rattle.chi_issue_b.specs.Opcodes.{place_of}
use Rattle.chi_log.specs.declared.forms.Form.{Form}
use Rattle.chi_log.specs.declared.forms.TheConstants.{ACCESS, CREDIT_RETURN, DATA_FLITS, OWN_ANSWER, OWN_REPLY, REQUEST, RESPONSES, SNOOP}
use Rattle.chi_log.specs.declared.kinds.Kind.{Kind}
use Rattle.chi_log.specs.declared.kinds.Kind.TheVariants as kinds
use Rattle.chi_log.specs.declared.kinds.OwnOpcode.{OwnOpcode}

-- of a request
abbrev pub request_form : RequestOpcode → Form
request_form PCrdReturn = CREDIT_RETURN
request_form other = REQUEST

-- of a flit, by the rows of the tables
unfoldable pub flit_form : Opcode → Form
flit_form (Req kind) = request_form kind
flit_form (Snp kind) = SNOOP
flit_form (Rsp kind) = (slice_index_or RESPONSES (place_of (Rsp kind)) (SnpRespFwded, OWN_REPLY)).1
flit_form (Dat kind) = (slice_index_or DATA_FLITS (place_of (Dat kind)) (WriteDataCancel, OWN_REPLY)).1

-- of one by an opcode of a design's own
abbrev pub reply_form : Bool → Form
reply_form is_answer = if is_answer then OWN_ANSWER else OWN_REPLY

abbrev pub own_form_on : Channel → Bool → Form
own_form_on channels.Req is_answer = REQUEST
own_form_on channels.Snp is_answer = SNOOP
own_form_on channels.Rsp is_answer = reply_form is_answer
own_form_on channels.Dat is_answer = reply_form is_answer

abbrev pub own_form : OwnOpcode → Form
own_form own = own_form_on own.channel own.is_answer

-- of a line
abbrev pub form_of : Kind → Form
form_of (kinds.Flit opcode) = flit_form opcode
form_of (kinds.Own own) = own_form own
form_of kinds.Load = ACCESS
form_of kinds.Store = ACCESS

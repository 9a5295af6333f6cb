-- Credit types: a line a cell of the table by kind and profile (docs/PROTOCOL.md, "Kinds of request").
use Rattle.std.specs.Prelude.{ℕ, List, codes}
use Rattle.chi_flit.specs.declared.kind.Kind.{Kind}
use Rattle.chi_flit.specs.declared.kind.Kind.TheVariants.{ReadUnique, CleanUnique, Evict, WriteBackFull}
use Rattle.chi_flit.specs.declared.kind.Kind.TheVariants.{WriteCleanFull, WriteEvictFull}
use Rattle.chi_flit.specs.declared.credit.CreditType.{CreditType}
use Rattle.chi_flit.specs.declared.credit.CreditType.TheVariants.{T0, T1, T2, T3}
use Rattle.chi_flit.specs.declared.credit.Profile.{Profile}
use Rattle.chi_flit.specs.declared.credit.Profile.TheVariants.{Four}

abbrev pub credit_type_of : Profile → Kind → CreditType
credit_type_of profile WriteBackFull = T1
credit_type_of profile WriteCleanFull = T1
credit_type_of profile WriteEvictFull = T1
credit_type_of Four ReadUnique = T2
credit_type_of Four CleanUnique = T2
credit_type_of Four Evict = T3
credit_type_of profile other = T0

abbrev pub credit_number : CreditType → ℕ
credit_number T0 = 0
credit_number T1 = 1
credit_number T2 = 2
credit_number T3 = 3

abbrev pub credit_text : CreditType → List ℕ
credit_text T0 = codes "0"
credit_text T1 = codes "1"
credit_text T2 = codes "2"
credit_text T3 = codes "3"

-- What the observer judges: each kind, snoop and flit (docs/OBSERVER.md, "What is judged").
use Rattle.std.specs.Prelude.{Bool, true}
use Rattle.chi_observer.specs.declared.kinds.Kind.{Kind}
use Rattle.chi_observer.specs.declared.kinds.Snoop.{Snoop}
use Rattle.chi_observer.specs.declared.flits.Act.{Act}
use Rattle.chi_observer.specs.declared.flits.Act.TheVariants.{Request, Resend}
use Rattle.chi_observer.specs.declared.flits.Grant.{Grant}
use Rattle.chi_observer.specs.declared.flits.Grant.TheVariants.{Snp}
use Rattle.chi_observer.specs.declared.flits.Flit.{Flit}
use Rattle.chi_observer.specs.declared.flits.Flit.TheVariants.{Up, Down}

abbrev pub judges_kind : Kind → Bool
judges_kind kind = true

abbrev pub judges_snoop : Snoop → Bool
judges_snoop snoop = true

abbrev pub judges_act : Act → Bool
judges_act (Request kind) = judges_kind kind
judges_act (Resend kind) = judges_kind kind
judges_act other = true

abbrev pub judges_grant : Grant → Bool
judges_grant (Snp snoop) = judges_snoop snoop
judges_grant other = true

abbrev pub is_judged : Flit → Bool
is_judged (Up f) = judges_act f.act
is_judged (Down g) = judges_grant g.grant

-- A step that is neither Admit nor Retry is a requester's own.
use Rattle.std.proofs.Common.{◌≡◌, ◌≢◌, true, refl}
use Rattle.chi_flit.specs.declared.action.Step.{Step}
use Rattle.chi_flit.specs.declared.action.Step.TheVariants.{Load, Store, Drop, Issue, Admit, Retry, RecvRetry, Resend, Cancel, Start, RecvSnp, RecvSnpResp, RecvData, RecvComp, RecvAck, RecvDbid, RecvWrData}
use Rattle.chi_node.specs.Calls.{is_own_step}

pub own_step : (step : Step) → step ≢ Admit → step ≢ Retry → is_own_step step ≡ true
own_step Admit h g = absurd (h refl)
own_step Retry h g = absurd (g refl)
own_step (Load word) h g = refl
own_step (Store word value) h g = refl
own_step Drop h g = refl
own_step (Issue kind slot) h g = refl
own_step RecvRetry h g = refl
own_step Resend h g = refl
own_step Cancel h g = refl
own_step Start h g = refl
own_step RecvSnp h g = refl
own_step RecvSnpResp h g = refl
own_step RecvData h g = refl
own_step RecvComp h g = refl
own_step RecvAck h g = refl
own_step RecvDbid h g = refl
own_step RecvWrData h g = refl

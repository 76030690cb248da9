-- A store is let go by a function of its own, which a call that takes its box has to know.
use Rattle.std.proofs.Common.{[], ◌∷◌, refl}
use seplogic.Ra.Ura.{Ura}
use mir.Syntax.{Dict, Callee, impl, method, tnil, dnil}
use prog.Wired.{Wired}
use prog.Model.{Model}
use contract.Running.{Running}
use types.Logic.{Logic}
use borrow.Fn.World.{World}
use borrow.Fn.Glue.{glue_by}
use borrow.Fn.Impl.{method_Known}
use borrow.Fn.Kinds.{ended_of, stays}
use denote.Param.{layouts}
use denote.Param.Glue.{Met}
use denote.Triple.Clauses.{Ended, Lasts, lasts, at_exit}
use denote.Triple.Walked.{Fit}
use Rattle.tsc_c.proofs.BoxedStore.{Passed, passed_laws}
use Rattle.tsc_c.proofs.tsc_ffi_store++store++Store+Destruct.drop.Symbol as goes
use Rattle.tsc_c.proofs.tsc_ffi_store++store++Store+Destruct.drop.Kinds as kinds
use Rattle.tsc_c.proofs.tsc_ffi_store++store++Store+Destruct.drop.Reads as reads
use Rattle.tsc_c.proofs.tsc_ffi_store++store++Store+Destruct.drop.Met as going

abbrev pub store_drop : Dict
store_drop = impl (goes.symbol ∷ []) tnil dnil

abbrev let_go : Callee
let_go = method store_drop 0 (layouts [] tt)

abbrev Goes : Ended
Goes = ended_of 0 kinds.ps kinds.r

module _ {M : Type 1} (𝓤 : Ura M) (𝓛 : Logic 𝓤) (𝓜 : Model 𝓤 𝓛.H) (𝓡 : Running 𝓤 𝓛.H 𝓜) where
  abbrev W : World
  W = record { M = M; 𝓤 = 𝓤; 𝓛 = 𝓛; 𝓜 = 𝓜; 𝓡 = 𝓡 }

  pub store_goes : Wired 𝓡.env goes.code → Met 𝓛 𝓜 𝓡 𝓡.env Passed store_drop
  store_goes w = glue_by Passed passed_laws W store_drop 𝓡.env (λ κs a. Lasts Goes tt a)
      (λ κs a. lasts Goes tt a)
      (λ κs a x ws. Fit Goes (stays kinds.ps) tt a ws × reads.Learnt tt a x (at_exit Goes tt a ws))
      (λ κs a. reads.Asked tt a) 0 tt (λ κs a h. tt)
      (λ κs bd a vss qs. method_Known 0 kinds.ps kinds.r reads.requires reads.ensures reads.Asked
      reads.Learnt reads.known W goes.name let_go
      (goes.as_method 𝓡.env w let_go refl) (going.met 𝓤 𝓛 𝓜 𝓡 w) ((tt, qs, tt, a, vss), tt))

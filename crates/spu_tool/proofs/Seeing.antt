-- What is seen before a command ends is what was seen before it read its files.
use Rattle.std.proofs.Common.{◌≡◌, ℕ, List, Option, Result, sym, subst}
use Rattle.spu_io.specs.Outside.{Names, Last}
use Rattle.spu_tool.specs.declared.made.Made.{Made}
use Rattle.spu_tool.specs.declared.status.Status.{Status}
use Rattle.spu_tool.specs.declared.request.Action.{Action}
use Rattle.spu_tool.specs.Arguments.{Asked}
use Rattle.spu_tool.specs.Makes.{MakesBy}
use Rattle.spu_tool.specs.Outcomes.{Seen, seen, Concludes, OutcomeBy}

pub same_start : (m : Made) (output output' : Option (List ℕ)) (answer : Status) (held held' : Option Names) (faults faults' : ℕ) (last last' : Last) (written : Option (List ℕ)) (sink_faults : ℕ) (b : Seen)
    → output' ≡ output → held' ≡ held → faults' ≡ faults → last' ≡ last → Concludes m output' answer (seen held' faults' last' written sink_faults) b → Concludes m output answer (seen held faults last written sink_faults) b
same_start m output output' answer held held' faults faults' last last' written sink_faults b eo eh ef el h =
    subst (λ x. Concludes m x answer (seen held faults last written sink_faults) b) eo
    (subst (λ x. Concludes m output' answer (seen x faults last written sink_faults) b) eh
    (subst (λ x. Concludes m output' answer (seen held' x last written sink_faults) b) ef
    (subst (λ x. Concludes m output' answer (seen held' faults' x written sink_faults) b) el h)))

pub by_words : (read r : Result Asked ℕ) (answer : Status) (a b : Seen) → read ≡ r → OutcomeBy r answer a b → OutcomeBy read answer a b
by_words read r answer a b e h = subst (λ x. OutcomeBy x answer a b) (sym e) h

-- the same under other words for the action, the names and the bytes
pub makes_same : (a a' : Action) (names names' files files' : List (List ℕ)) (m : Made) → a' ≡ a → names' ≡ names → files' ≡ files → MakesBy a' names' files' m → MakesBy a names files m
makes_same a a' names names' files files' m ea en ef h =
    subst (λ x. MakesBy x names files m) ea (subst (λ x. MakesBy a' x files m) en (subst (λ x. MakesBy a' names' x m) ef h))

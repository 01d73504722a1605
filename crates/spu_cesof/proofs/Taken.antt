-- What unpack answers.
use Rattle.std.proofs.Common.{◌≡◌, List, ℕ, Result, Ok, Err, sym, subst}
use Rattle.std.specs.Result.{IfOk}
use Rattle.spu_elf.proofs.ExecutableFields.{IsBytes}
use Rattle.spu_cesof.specs.Answers.{Says, IsEmbedded}
use Rattle.spu_cesof.specs.Unpacking.{cesof_fault, image_in}
use Rattle.spu_cesof.specs.declared.faults.CesofFault.{CesofFault}
use Rattle.spu_cesof.proofs.BackWhole.{embedded_back}

pub embeds : (r : Result (List ℕ) CesofFault) (b : List ℕ) → IsBytes b → Says r (cesof_fault b) → IfOk r (λ file. file ≡ image_in b) → IfOk r (λ file. IsEmbedded file b)
embeds (Ok file) b fits says is = subst (λ (z : List ℕ). IsEmbedded z b) (sym is) (embedded_back b fits says)
embeds (Err e) b fits says is = tt

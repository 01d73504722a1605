-- Objects are linked or have a fault, and never both.
use Rattle.std.proofs.Common.{◌≡◌, ℕ, ◌+◌, ◌-◌, ◌*◌, ◌/◌, ◌≤◌, Bool, true, false, List, length, Option, refl, sym, ap, ◌∙◌, subst, arith}
use Rattle.spu_word.specs.declared.limits.TheConstants.{DATA_START, STACK_TOP}
use Rattle.spu_elf.specs.declared.executables.Exec.{Exec}
use Rattle.spu_elf.specs.declared.objects.Symbol.{Symbol}
use Rattle.spu_elf.specs.Lengths.{strings_len}
use Rattle.spu_elf.specs.Spelling.{spell_exec}
use Rattle.spu_elf.specs.Validity.{IsValidExec}
use Rattle.spu_lift.specs.declared.program.Prog.{Prog}
use Rattle.spu_lift.specs.WellFormed.{IsWellFormed}
use Rattle.spu_frame.specs.Found.{frame_at}
use Rattle.spu_graph.specs.Known.{need_of}
use Rattle.spu_judge.specs.declared.outcome.Judged.{Judged}
use Rattle.spu_judge.specs.Answers.{IsJudgement}
use Rattle.spu_plan.specs.declared.plan.Plan.{Plan}
use Rattle.spu_layout.specs.Placing.{FitsFlat, layout_of}
use Rattle.spu_layout.proofs.Flats.{planned}
use Rattle.spu_image.specs.Filling.{HasOneSegment, first_size, segment_size}
use Rattle.spu_image.specs.Images.{IsFlatExec}
use Rattle.spu_image.specs.JudgedLinking.{IsFileTooLarge, IsTooLarge, told_of}
use Rattle.spu_image.proofs.FileLengths.{flat_length}
use Rattle.spu_image.proofs.FlatFiles.{segment_quads}
use Rattle.spu_image.proofs.JudgedImages.{told_alike}
use Rattle.spu_image.proofs.JudgedExactly.{needs_agree}
use Rattle.spu_image.proofs.Roots.{segment_ends}

-- ---- L20

pub plan_kept : (p : Prog) (plan : Plan) (limit least room : ℕ) → FitsFlat p plan limit → IsTooLarge p limit least room → ⊥
plan_kept p plan limit least room fits h =
    let below : (planned p).end ≤ STACK_TOP - limit = subst (λ (q : Plan). q.end ≤ STACK_TOP - limit) fits.planned fits.below in
    let end = h.end in
    let room_is = h.below in
    let over = h.over in
    omega (arith, below, end, room_is, over)

-- ---- L21

-- two flat executables of a program, whose told needs agree, have files of one length
module _ (p : Prog) (well : IsWellFormed p) (limit : ℕ) (told : ℕ → Option ℕ) where
  planned_one : (plan : Plan) → FitsFlat p plan limit → (x : Exec) → IsFlatExec p (layout_of p plan limit) limit told x → IsFlatExec p (layout_of p (planned p) limit) limit told x
  planned_one plan fits x image = subst (λ q. IsFlatExec p (layout_of p q limit) limit told x) fits.planned image

  one : (x : Exec) → (planned p).end ≤ STACK_TOP - limit → IsFlatExec p (layout_of p (planned p) limit) limit told x → HasOneSegment x
  one x below image =
      let ends = segment_ends p well limit image.bytes image.holds in
      record {
        segment = record { address = DATA_START; overlay = false; bytes = image.bytes };
        only = image.segments;
        quads = (segment_quads p well limit below (length image.bytes) ends).1;
        small = omega (arith, ends, below);
      }

  size_is : (x : Exec) → IsFlatExec p (layout_of p (planned p) limit) limit told x → DATA_START + segment_size x ≡ (planned p).end
  size_is x image =
      let ends = segment_ends p well limit image.bytes image.holds in
      let n : segment_size x ≡ length image.bytes = ap first_size image.segments in
      omega (arith, ends, n)

  same_length : (plan other : Plan) → FitsFlat p plan limit → FitsFlat p other limit → (x y : Exec) → IsFlatExec p (layout_of p plan limit) limit told x → IsFlatExec p (layout_of p other limit) limit told y
      → length (spell_exec x) ≡ length (spell_exec y)
  same_length plan other fits also x y image another =
      let below : (planned p).end ≤ STACK_TOP - limit = subst (λ (q : Plan). q.end ≤ STACK_TOP - limit) fits.planned fits.below in
      let a = planned_one plan fits x image in
      let b = planned_one other also y another in
      let size : segment_size x ≡ segment_size y = (let m = size_is x a in let n = size_is y b in omega (arith, m, n)) in
      let symbols : x.symbols ≡ y.symbols = a.symbols ∙ sym b.symbols in
      flat_length x (one x below a)
      ∙ ap (λ n. (128 + n + 16 * (1 + length x.symbols) + (strings_len x.symbols + 33) + 3) / 4 * 4 + 40 * 5) size
      ∙ ap (λ (ss : List Symbol). (128 + segment_size y + 16 * (1 + length ss) + (strings_len ss + 33) + 3) / 4 * 4 + 40 * 5) symbols
      ∙ sym (flat_length y (one y below b))

told_agree : (is_told : Bool) (needs known : ℕ → Option ℕ) (f : ℕ) → needs f ≡ known f → told_of is_told needs f ≡ told_of is_told known f
told_agree true needs known f e = e
told_agree false needs known f e = refl

pub file_kept : (p : Prog) (limit : ℕ) (j k : Judged) → IsJudgement p limit j → IsJudgement p limit k → (stack_syms : Bool) (plan : Plan) → FitsFlat p plan limit
    → (x : Exec) → IsFlatExec p (layout_of p plan limit) limit (told_of stack_syms (need_of j.needs)) x → IsValidExec x → (size : ℕ) → IsFileTooLarge p limit (told_of stack_syms (need_of k.needs)) size → ⊥
file_kept p limit j k is also stack_syms plan fits x image valid size h =
    let well = is.judged.formed in
    let agree = needs_agree p well (frame_at j.depths) (frame_at k.depths) is.judged.greatest also.judged.greatest (need_of j.needs) (need_of k.needs) is.needs also.needs in
    let mine = told_alike p (layout_of p plan limit) limit (told_of stack_syms (need_of j.needs)) (told_of stack_syms (need_of k.needs)) (λ f lt. told_agree stack_syms (need_of j.needs) (need_of k.needs) f (agree f lt)) x image in
    let same = same_length p well limit (told_of stack_syms (need_of k.needs)) plan h.plan fits h.fits x h.exec mine h.image in
    let small = valid.small in
    let e = h.is in
    let over = h.over in
    omega (arith, same, small, e, over)

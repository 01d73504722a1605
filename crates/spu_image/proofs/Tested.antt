-- Tests, halts and addresses that read numbers alone are the machine's.
use Rattle.std.proofs.Common.{◌≡◌, ℕ, List, map, true}
use Rattle.std.proofs.lemmas.Bool.{and_parts}
use Rattle.spu_isa.specs.declared.instruction.Inst.{Inst}
use Rattle.spu_exec.specs.Lanes.{immediate}
use Rattle.spu_exec.specs.Places.{taken, holds, place}
use Rattle.spu_exec.specs.declared.sources.Source.TheVariants.{FromRa, FromRb, FromRt}
use Rattle.spu_exec.specs.Tested.{tested, addressed}
use Rattle.spu_exec.proofs.Tested.{taken_same, holds_same, place_same}
use Rattle.spu_lift.specs.declared.program.Label.{Label}
use Rattle.spu_lift.specs.declared.symbolic.SymByte.{SymByte}
use Rattle.spu_ideal.specs.Bytes.{number_of}
use Rattle.spu_ideal.specs.Results.{are_known}
use Rattle.spu_ideal.specs.Tested.{can_test, can_halt, can_address, symbolic_taken, symbolic_holds, symbolic_place}
use Rattle.spu_image.specs.Agreeing.{AgreesQuad}
use Rattle.spu_image.proofs.Agreement.{read_agree}

pub taken_agrees : (c : Label → List ℕ) (x : Inst) (st : List SymByte) (t : List ℕ) → AgreesQuad c st t → can_test x st ≡ true → taken x t ≡ symbolic_taken x st
taken_agrees c x st t h k = taken_same x.op t (map number_of st) (read_agree c (tested x.op FromRt) st t h k)

pub holds_agrees : (c : Label → List ℕ) (x : Inst) (sa sb : List SymByte) (a b : List ℕ) → AgreesQuad c sa a → AgreesQuad c sb b → can_halt x sa sb ≡ true → holds x a b ≡ symbolic_holds x sa sb
holds_agrees c x sa sb a b ha hb k =
    let p = and_parts (are_known (tested x.op FromRa) sa 16) (are_known (tested x.op FromRb) sb 16) k in
    holds_same x.op (immediate 4 x.imm) a b (map number_of sa) (map number_of sb) (read_agree c (tested x.op FromRa) sa a ha p.0) (read_agree c (tested x.op FromRb) sb b hb p.1)

pub place_agrees : (c : Label → List ℕ) (x : Inst) (pc : ℕ) (sa sb : List SymByte) (a b : List ℕ) → AgreesQuad c sa a → AgreesQuad c sb b → can_address x sa sb ≡ true
    → place x pc a b ≡ symbolic_place x pc sa sb
place_agrees c x pc sa sb a b ha hb k =
    let p = and_parts (are_known (addressed x.op FromRa) sa 16) (are_known (addressed x.op FromRb) sb 16) k in
    place_same x.op (immediate 4 x.imm) pc a b (map number_of sa) (map number_of sb) (read_agree c (addressed x.op FromRa) sa a ha p.0) (read_agree c (addressed x.op FromRb) sb b hb p.1)

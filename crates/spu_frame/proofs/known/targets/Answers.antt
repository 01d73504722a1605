use Rattle.std.proofs.Common.{◌≡◌, ◌<◌, ℕ, Bool, List, Some, ◌+◌, length, get_or, sym, ap, ◌∙◌, subst, arith}
use Rattle.std.specs.Prelude.{slice_get}
use Rattle.std.proofs.lemmas.Option.{slice_get-get_or}
use Rattle.spu_lift.specs.declared.program.SymInst.{SymInst}
use Rattle.spu_lift.specs.declared.program.Prog.{Prog}
use Rattle.spu_lift.specs.Places.{instruction_at, taken_places}
use Rattle.spu_frame.specs.Functions.{code_of}
use Rattle.spu_frame.proofs.Formed.{code_is, branch_within}
use Rattle.spu_frame.proofs.Ways.{taken_at, taken_in}
use Rattle.spu_frame.proofs.Marks.{AreMarks, mark_branch, mark_taken, marks_all}
use Rattle.spu_frame.proofs.known.targets.Goals as goal

instruction_in : (p : Prog) (f : ℕ) (code : List SymInst) (i : ℕ) (d : SymInst) → code ≡ code_of p f → i < length code → instruction_at p f i ≡ Some (get_or code i d)
instruction_in p f code i d e lt = code_is p f i ∙ ap (λ (cs : List SymInst). slice_get cs i) (sym e) ∙ slice_get-get_or code i d lt

pub mark_target-requires : goal.mark_target-requires
mark_target-requires c = λ j e.
    (let here = instruction_in c.args.p.now c.args.f c.code_of-code.result.now c.loop-x.x-index _ c.code_of-code.ensures (omega arith) in
    let lt = branch_within c.args.p.now c.requires.formed c.args.f c.loop-x.x-index j _ here e in
    let count = c.loop-x.invariant.count in
    let whole = ap (λ (cs : List SymInst). length cs) c.code_of-code.ensures in
    omega (arith, lt, count, whole))

pub loop-x-preserved : goal.loop-x-preserved
loop-x-preserved c =
    let code = c.code_of-code.result.now in
    let here = instruction_in c.args.p.now c.args.f code c.loop-x.x-index _ c.code_of-code.ensures (omega arith) in
    let count = c.loop-x.invariant.count in
    let whole = ap (λ (cs : List SymInst). length cs) c.code_of-code.ensures in
    subst (λ (ms : List Bool). AreMarks code (c.loop-x.x-index + 1) (taken_places c.args.p.now c.args.f) 0 ms) (sym c.mark_target.ensures)
    (mark_branch code c.loop-x.x-index (taken_places c.args.p.now c.args.f) 0 c.loop-x.marks.items c.loop-x.invariant _ (slice_get-get_or code c.loop-x.x-index _ (omega arith))
    (λ j e. (let lt = branch_within c.args.p.now c.requires.formed c.args.f c.loop-x.x-index j _ here e in omega (arith, lt, count, whole))))

pub index_mut-requires : goal.index_mut-requires
index_mut-requires c =
    let lt = taken_in c.args.p.now c.requires.formed c.args.f c.taken_of-j-items.result.now c.loop-j.j-index 0 c.taken_of-j-items.ensures (omega arith) in
    let count = c.loop-j.invariant.count in
    let ok = c.loop-j.marks.ok in
    omega (arith, lt, count, ok)

pub loop-j-preserved : goal.loop-j-preserved
loop-j-preserved c =
    let taken = c.taken_of-j-items.result.now in
    let lt = taken_in c.args.p.now c.requires.formed c.args.f taken c.loop-j.j-index 0 c.taken_of-j-items.ensures (omega arith) in
    let count = c.loop-j.invariant.count in
    mark_taken (code_of c.args.p.now c.args.f) (length (code_of c.args.p.now c.args.f)) (taken_places c.args.p.now c.args.f) c.loop-j.j-index c.loop-j.marks.items c.loop-j.invariant (get_or taken c.loop-j.j-index 0)
    (taken_at c.args.p.now c.args.f taken c.loop-j.j-index 0 c.taken_of-j-items.ensures (omega arith)) (omega (arith, lt, count))

pub returns : goal.returns
returns c =
    let all = ap (λ (xs : List ℕ). length xs) c.taken_of-j-items.ensures in
    marks_all c.args.p.now c.args.f (length (code_of c.args.p.now c.args.f)) c.loop-j.j-index c.loop-j.marks.items (omega arith) (omega (arith, all)) c.loop-j.invariant

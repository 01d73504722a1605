use Rattle.std.proofs.Common.{inl, inr, List, length, Some, None, Option, IfSome, arith, sym, ap, subst, ℤ}
use Rattle.spu_lift.specs.declared.program.SymInst.{SymInst}
use Rattle.spu_frame.specs.Walks.{AddsImmediate, IsKnownWrite}
use Rattle.spu_frame.specs.Surveys.{IsLoadAdded}
use Rattle.spu_frame.proofs.Formed.{place_within, rb_small}
use Rattle.spu_frame.proofs.Scans.{immediate_known, register_known, known_found}
use Rattle.spu_frame.proofs.known.known_at.Goals as goal

pub added_register-requires : goal.added_register-requires
added_register-requires c =
    let here = c.instruction-x.ensures in
    let scan = c.requires.scan in
    let whole = ap (λ (cs : List SymInst). length cs) c.code_of.ensures in
    let count = scan.count in
    record {
      writers = λ r h at. (
          let wrote = scan.wrote r h at in
          let lt = place_within c.args.p.now c.args.f h wrote.1.0 wrote.1.1 in
          omega (arith, lt, whole));
      rb = λ is. (let lt = rb_small c.args.p.now c.requires.formed c.args.f c.args.i c.instruction-x.result.now here is.a in omega (arith, lt, count));
    }

by_immediate : (o : Option ℤ) (P Q : ℤ → Type 0) → IfSome o P → ((k : ℤ) → P k → Q k) → IfSome o Q
by_immediate None P Q h to = tt
by_immediate (Some k) P Q h to = to k h

pub returns-in-Some : goal.returns-in-Some
returns-in-Some c =
    let x = c.instruction-x.result.now in
    record {
      some = by_immediate c.added_immediate-known.result (AddsImmediate x) (IsKnownWrite c.args.p.now c.args.f c.args.i) c.added_immediate-known.ensures.some
          (λ k a. immediate_known c.args.p.now c.args.f c.args.i c.args.writers.now.items c.args.straight c.requires.scan x c.instruction-x.ensures k a);
      none = λ e k w. (let is = c.in-Some.is in cc);
    }

pub returns-in-None : goal.returns-in-None
returns-in-None c =
    let x = c.instruction-x.result.now in
    let same = c.code_of.ensures in
    record {
      some = by_immediate c.added_register.result (IsLoadAdded c.code_of.result.now c.args.writers.now.items c.args.straight x) (IsKnownWrite c.args.p.now c.args.f c.args.i) c.added_register.ensures.some
          (λ k a. register_known c.args.p.now c.args.f c.args.i c.args.writers.now.items c.args.straight c.requires.scan x c.instruction-x.ensures k
          (subst (λ cs. IsLoadAdded cs c.args.writers.now.items c.args.straight x k) same a));
      none = λ e k w. (
          elim (known_found c.args.p.now c.args.f c.args.i c.args.writers.now.items c.args.straight c.requires.scan x c.instruction-x.ensures
          (λ is. (let lt = rb_small c.args.p.now c.requires.formed c.args.f c.args.i x c.instruction-x.ensures is.a in let count = c.requires.scan.count in omega (arith, lt, count))) k w) [
            | inl a ↦ c.added_immediate-known.ensures.none c.in-None.is k a
            | inr l ↦ c.added_register.ensures.none e k (subst (λ cs. IsLoadAdded cs c.args.writers.now.items c.args.straight x k) (sym same) l)
          ]);
    }

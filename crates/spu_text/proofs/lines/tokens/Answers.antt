use Rattle.std.proofs.Common.{◌≡◌, ℕ, List, [], ◌∷◌, arith, length, ◌+◌, ◌<◌, ◌≤◌, ◌∙◌, sym, ap, Ok, Err}
use Rattle.std.proofs.lemmas.List.{append-nil}
use Rattle.std.proofs.lemmas.Result.{err_from_is_err_and}
use Rattle.std.proofs.lemmas.Bool.Decides.{nat_tests}
use Rattle.spu_text.proofs.LineSteps.{lines_step, lines_fault, gives_fault}
use Rattle.spu_text.proofs.OrderSteps.{text_order}
use Rattle.spu_text.specs.Texts.{text_read, lines_read, lines_of, with_front}
use Rattle.spu_text.specs.declared.lexemes.Token.{Token}
use Rattle.spu_text.proofs.lines.tokens.Goals as goal

pub returns-in_err-read_line-clause-tokens : goal.returns-in_err-read_line-clause-tokens
returns-in_err-read_line-clause-tokens c =
    let some : 0 < length c.loop-rest.rest.now = grind (arith, nat_tests) in
    let same = err_from_is_err_and c.from_residual.result c.from_residual.ensures.1 in
    let fault = lines_fault c.loop-rest.number c.loop-rest.start c.loop-rest.rest.now c.split_at.result.0.now _ in
    gives_fault _ c.in_err-read_line.field-0.0 _ _ (same.1 ∙ ap (λ y. Err y) same.2) c.in_err-read_line.ensures (λ g e. fault g _ c.loop-rest.invariant.read some (cc) e)

pub loop-rest-preserved : goal.loop-rest-preserved
loop-rest-preserved c =
    let inv = c.loop-rest.invariant in
    let cut = c.split_at.ensures in
    let some : 0 < length c.loop-rest.rest.now = grind (arith, nat_tests) in
    record {
      read = lines_step c.loop-rest.number c.loop-rest.start c.loop-rest.rest.now c.split_at.result.0.now c.split_at.result.1.now _ _ _ inv.read some (cc) (cc) c.in_ok-read_line.ensures;
      place = omega (arith, cut.front_len, cut.back_len);
      line = omega (arith, inv.line, cut.front_len, c.line_len.ensures.some some);
    }

-- what was read where no line is left
nothing_left : (number start : ℕ) (text rest : List ℕ) (all : List Token) → length rest ≡ 0 → with_front all (lines_read number start (lines_of rest)) ≡ text_read text → text_read text ≡ Ok all
nothing_left number start text [] all e is = sym is ∙ ap (λ (x : List Token). Ok x) (append-nil all)
nothing_left number start text (b ∷ bs) all e is = absurd (omega (arith, e))

pub returns-clause-order : goal.returns-clause-order
returns-clause-order c =
    let none : length c.loop-rest.rest.now ≡ 0 = grind (arith, nat_tests) in
    text_order c.args.text.now c.loop-rest.all (nothing_left c.loop-rest.number c.loop-rest.start c.args.text.now c.loop-rest.rest.now c.loop-rest.all none c.loop-rest.invariant.read)

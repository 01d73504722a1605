-- The code of a function of a workload is short.
use Rattle.std.proofs.Common.{ℕ, ◌+◌, ◌*◌, ◌<◌, ◌≤◌, lit≤, ◌==◌, Bool, true, false, [], ◌∷◌, ◌++◌, length, replicate, arith}
use Rattle.std.specs.Prelude.{nat_le, if◌then◌else◌}
use Rattle.std.proofs.lemmas.List.{length-append, length-replicate}
use Rattle.spu_gen.specs.declared.lines.Line.TheVariants.{Load, Send, Nop, Call}
use Rattle.spu_gen.specs.declared.lines.TheConstants.{MAX_LINES}
use Rattle.spu_gen.specs.Workloads.{call_of, code_of, enters, leaves, main_code, padding, sender_code}

one_call : (count i : ℕ) → length (call_of count i) ≤ 1
one_call count i = by_test (nat_le i count)
  where
    by_test : (b : Bool) → length (if b then Call i ∷ [] else []) ≤ 1
    by_test true = lit≤ tt
    by_test false = lit≤ tt

sender_short : (count i x : ℕ) → length (sender_code count i x) ≤ MAX_LINES
sender_short count i x =
    let nops = replicate (padding x) Nop in
    let front = enters ++ Load x ∷ Send ∷ nops in
    let first = call_of count (2 * i) in
    let second = call_of count (2 * i + 1) in
    let a = length-append enters (Load x ∷ Send ∷ nops) in
    let b = length-append front first in
    let c = length-append (front ++ first) second in
    let d = length-append (front ++ first ++ second) leaves in
    let many = length-replicate (padding x) Nop in
    let one = one_call count (2 * i) in
    let two = one_call count (2 * i + 1) in
    let few : padding x < 256 = omega arith in
    omega (arith, a, b, c, d, many, one, two, few)

pub code_short : (count i x : ℕ) → length (code_of count i x) ≤ MAX_LINES
code_short count i x = by_index (i == 0)
  where
    by_index : (b : Bool) → length (if b then main_code else sender_code count i x) ≤ MAX_LINES
    by_index true = lit≤ tt
    by_index false = sender_short count i x

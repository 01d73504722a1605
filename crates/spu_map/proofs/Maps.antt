-- Loops over segments.
use Rattle.std.proofs.Common.{◌≡◌, ℕ, ◌<◌, ◌≤◌, ◌+◌, List, ◌++◌, length, drop, get_or, sym, ◌∙◌, append_assoc, append-nil}
use Rattle.std.proofs.lemmas.List.{at_drop_more, at_drop_all}
use Rattle.spu_elf.specs.Rows.{begins}
use Rattle.spu_elf.specs.declared.executables.Segment.{Segment}
use Rattle.spu_map.specs.Maps.{segment_line, segment_lines}

pub lines_from : (text : List ℕ) (at : ℕ) (ss : List Segment) (k : ℕ) (s : Segment) → k < length ss → text ++ segment_lines k at (drop k ss) ≡ (text ++ segment_line k (get_or ss k s) (begins at)) ++ segment_lines (k + 1) (begins at + length (get_or ss k s).bytes) (drop (k + 1) ss)
unfolding segment_lines
lines_from text at ss k s lt =
    at_drop_more (λ (xs : List Segment). text ++ segment_lines k at xs) ss k s lt
    ∙ sym (append_assoc text (segment_line k (get_or ss k s) (begins at)) (segment_lines (k + 1) (begins at + length (get_or ss k s).bytes) (drop (k + 1) ss)))

pub lines_done : (text : List ℕ) (at : ℕ) (ss : List Segment) (k : ℕ) → length ss ≤ k → text ++ segment_lines k at (drop k ss) ≡ text
unfolding segment_lines
lines_done text at ss k le = at_drop_all (λ (xs : List Segment). text ++ segment_lines k at xs) ss k le ∙ append-nil text

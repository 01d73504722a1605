-- The moves that are tried come out.
use Rattle.std.proofs.Common.{◌≡◌, ◌⊎◌, inl, inr, ℕ, ◌+◌, ◌-◌, ◌%◌, List, None, refl, sym, subst, nat_lt, pos, true}
use Rattle.std.specs.Prelude.{if◌then◌else◌, slice_index}
use Rattle.spu_isa.specs.declared.operation.Op.{Op}
use Rattle.spu_isa.specs.declared.operation.Op.TheVariants as op
use Rattle.spu_exec.specs.Moves.{moved_byte, selected_byte}
use Rattle.spu_lift.specs.declared.program.Label.{Label}
use Rattle.spu_lift.specs.declared.program.Label.TheVariants.{Link}
use Rattle.spu_lift.specs.declared.symbolic.SymByte.{SymByte}
use Rattle.spu_lift.specs.declared.symbolic.SymByte.TheVariants.{Num, Part, Unknown}
use Rattle.spu_ideal.specs.Bytes.{sixteen, link_of, unknown_quad}
use Rattle.spu_ideal.specs.Results.{are_known, computed_byte, symbolic_byte, symbolic_value, label_value_byte, label_value}
use Rattle.spu_ideal.specs.Moving.{is_move, of_op, words}

pub turned : (f i : ℕ) (b c t : List SymByte) → symbolic_value (of_op op.Rotqbyi (pos 4)) (link_of f i) b c t ≡ sixteen (λ k. Part (Link f i) ((k + 4) % 16))
unfolding are_known computed_byte symbolic_byte label_value_byte
turned f i b c t = refl

pub turned_by_word : (f i : ℕ) (c t : List SymByte) → symbolic_value (of_op op.Rotqby (pos 0)) (link_of f i) (words 20 0 0 0) c t ≡ sixteen (λ k. Part (Link f i) ((k + 4) % 16))
unfolding are_known computed_byte symbolic_byte label_value_byte
turned_by_word f i c t = refl

pub shifted_left : (f i : ℕ) (b c t : List SymByte) → symbolic_value (of_op op.Shlqbyi (pos 4)) (link_of f i) b c t ≡ sixteen (λ k. if nat_lt k 12 then Part (Link f i) (k + 4) else Num 0)
unfolding are_known computed_byte symbolic_byte label_value_byte
shifted_left f i b c t = refl

pub shifted_right : (f i : ℕ) (c t : List SymByte) → symbolic_value (of_op op.Rotqmby (pos 0)) (link_of f i) (words 28 0 0 0) c t ≡ sixteen (λ k. if nat_lt k 4 then Num 0 else Part (Link f i) (k - 4))
unfolding are_known computed_byte symbolic_byte label_value_byte
shifted_right f i c t = refl

pub count_unknown : (f i : ℕ) (c t : List SymByte) → symbolic_value (of_op op.Rotqby (pos 0)) (link_of f i) (link_of f i) c t ≡ unknown_quad
unfolding are_known computed_byte symbolic_byte label_value_byte
count_unknown f i c t = refl

pub shuffled : (f i : ℕ) (t : List SymByte) → symbolic_value (of_op op.Shufb (pos 0)) (words 1 2 3 4) (link_of f i) (words 0x10111213 0x03808080 0xc0c0c0c0 0xe0e0e0e0) t ≡ sixteen (λ k. if nat_lt k 4 then Part (Link f i) k else (if nat_lt k 5 then Num 1 else (if nat_lt k 8 then Num 0 else (if nat_lt k 12 then Num 255 else Num 128))))
unfolding are_known computed_byte symbolic_byte label_value_byte
shuffled f i t = refl

pub selected : (f i : ℕ) (t : List SymByte) → symbolic_value (of_op op.Selb (pos 0)) (words 0 0 0 0) (link_of f i) (words 0xffffffff 0 0 0x01010101) t ≡ sixteen (λ k. if nat_lt k 4 then Part (Link f i) k else (if nat_lt k 12 then Num 0 else Unknown))
unfolding are_known computed_byte symbolic_byte label_value_byte
selected f i t = refl

pub kept : (f i : ℕ) (b c t : List SymByte) → symbolic_value (of_op op.Ori (pos 0)) (link_of f i) b c t ≡ link_of f i
unfolding are_known computed_byte symbolic_byte label_value_byte
kept f i b c t = refl

pub kept_itself : (c t : List SymByte) → symbolic_value (of_op op.Or (pos 0)) (link_of 1 2) (link_of 1 2) c t ≡ link_of 1 2
unfolding are_known computed_byte symbolic_byte label_value_byte
kept_itself c t = refl

pub spoilt : (f i : ℕ) (b c t : List SymByte) → symbolic_value (of_op op.Orbi (pos 1)) (link_of f i) b c t ≡ unknown_quad
unfolding are_known computed_byte symbolic_byte label_value_byte
spoilt f i b c t = refl

pub label_whole : (l : Label) (a b c t : List SymByte) → label_value (of_op op.Ila (pos 0)) l a b c t ≡ sixteen (λ k. Part l (k % 4))
unfolding are_known computed_byte symbolic_byte label_value_byte
label_whole l a b c t = refl

pub label_halves : (l : Label) (a b c t : List SymByte) → label_value (of_op op.Iohl (pos 0)) l a b c (label_value (of_op op.Ilhu (pos 0)) l a b c t) ≡ sixteen (λ k. Part l (k % 4))
unfolding are_known computed_byte symbolic_byte label_value_byte
label_halves l a b c t = refl

pub by_halfwords : (f i : ℕ) (b c t : List SymByte) → symbolic_value (of_op op.Orhi (pos 1)) (link_of f i) b c t ≡ sixteen (λ k. if nat_lt (k % 2) 1 then Part (Link f i) k else Unknown)
unfolding are_known computed_byte symbolic_byte label_value_byte
by_halfwords f i b c t = refl

pub low_half : (f i : ℕ) (a b c : List SymByte) → symbolic_value (of_op op.Iohl (pos 1)) a b c (link_of f i) ≡ sixteen (λ k. if nat_lt (k % 4) 3 then Part (Link f i) k else Unknown)
unfolding are_known computed_byte symbolic_byte label_value_byte
low_half f i a b c = refl

selection : (a b mask : ℕ) → (mask ≡ 0) ⊎ (mask ≡ 255) → selected_byte a b mask ≡ None → ⊥
selection a b mask (inl z) = subst (λ m. selected_byte a b m ≡ None → ⊥) (sym z) (λ e. cc)
selection a b mask (inr z) = subst (λ m. selected_byte a b m ≡ None → ⊥) (sym z) (λ e. cc)

pub moving : (o : Op) → is_move o ≡ true → (n : ℕ) (a b c t : List ℕ) (k : ℕ) → (o ≡ op.Selb → (slice_index c k ≡ 0) ⊎ (slice_index c k ≡ 255)) → moved_byte o n a b c t k ≡ None → ⊥
moving op.Selb h n a b c t k mask e = selection (slice_index a k) (slice_index b k) (slice_index c k) (mask refl) e
moving op.Shufb h n a b c t k mask e = cc
moving op.Rotqby h n a b c t k mask e = cc
moving op.Rotqbyi h n a b c t k mask e = cc
moving op.Rotqbybi h n a b c t k mask e = cc
moving op.Shlqby h n a b c t k mask e = cc
moving op.Shlqbyi h n a b c t k mask e = cc
moving op.Shlqbybi h n a b c t k mask e = cc
moving op.Rotqmby h n a b c t k mask e = cc
moving op.Rotqmbyi h n a b c t k mask e = cc
moving op.Or h n a b c t k mask e = cc
moving op.Ori h n a b c t k mask e = cc
moving op.Orhi h n a b c t k mask e = cc
moving op.Orbi h n a b c t k mask e = cc
moving op.Iohl h n a b c t k mask e = cc
moving op.Ila h n a b c t k mask e = cc
moving op.Ilhu h n a b c t k mask e = cc
moving _ h n a b c t k mask e = absurd (cc)

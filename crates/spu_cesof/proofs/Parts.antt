-- The object of an embedded executable, part by part.
use Rattle.std.proofs.Common.{◌≡◌, ℕ, ◌+◌, ◌*◌, List, [], ◌∷◌, ◌++◌, length, take, drop, replicate, codes, refl, sym, ap, ◌∙◌, append_assoc, arith}
use Rattle.std.specs.List.{fold, prefix_len}
use Rattle.std.proofs.lemmas.List.{length-append, length-replicate, replicate-append-replicate, take_at, drop_at}
use Rattle.std.proofs.lemmas.List.Sums.{fold-append}
use Rattle.spu_elf.specs.Spelling.{Part, Draft, Group, added, blank, closed, groups, group_of, is_in, section_header, symbol_part, with_tables, file_of}
use Rattle.spu_elf.specs.Rows.{aligned, padding, ended}
use Rattle.spu_elf.specs.declared.objects.Reloc.{Reloc}
use Rattle.spu_elf.specs.declared.objects.Section.{Section}
use Rattle.spu_elf.specs.declared.objects.Symbol.{Symbol}
use Rattle.spu_elf.proofs.DraftLemmas.{length_aligned}
use Rattle.spu_elf.proofs.ExecutableSpelling.{body, heads, names_of, place_of, drafted, names_part, strings_part}
use Rattle.spu_elf.proofs.ExecutableTables.{tail_parts}
use Rattle.spu_cesof.specs.Embedding.{object_sections, toe_relocs, handle_relocs, handle_bytes, data_section}

-- ---- the relocations, section by section

in_toe : (k : ℕ) (names : List (List ℕ)) → prefix_len (is_in 1) (toe_relocs k names ++ handle_relocs) ≡ length (toe_relocs k names)
in_toe k [] = refl
in_toe k (x ∷ xs) = omega (arith, in_toe (k + 1) xs)

abbrev pub toe_group : List (List ℕ) → Group
toe_group names = record { target = 1; name = codes ".data.spetoe"; relocs = toe_relocs 0 names }

abbrev pub handle_group : Group
handle_group = record { target = 2; name = codes ".data.spehandle"; relocs = handle_relocs }

abbrev pub group_list : List (List ℕ) → List Group
group_list [] = handle_group ∷ []
group_list (x ∷ xs) = toe_group (x ∷ xs) ∷ handle_group ∷ []

pub groups_are : (n : ℕ) (file : List ℕ) (names : List (List ℕ)) → groups 0 (object_sections n file) (toe_relocs 0 names ++ handle_relocs) ≡ group_list names
unfolding groups
groups_are n file [] = refl
groups_are n file (x ∷ xs) = cut (prefix_len (is_in 1) (toe_relocs 0 (x ∷ xs) ++ handle_relocs)) (in_toe 0 (x ∷ xs))
  where
    toe : Section
    toe = data_section (codes ".data.spetoe") Rattle.spu_elf.specs.declared.objects.SecKind.TheVariants.Vars 16 (replicate (16 * n) 0)

    others : List Section
    others = data_section (codes ".data.spehandle") Rattle.spu_elf.specs.declared.objects.SecKind.TheVariants.Vars 4 handle_bytes ∷ []

    cut : (m : ℕ) → m ≡ length (toe_relocs 0 (x ∷ xs)) → group_of 1 toe (take m (toe_relocs 0 (x ∷ xs) ++ handle_relocs)) ++ groups 2 others (drop m (toe_relocs 0 (x ∷ xs) ++ handle_relocs)) ≡ toe_group (x ∷ xs) ∷ handle_group ∷ []
    cut m e =
        ap (λ (rs : List Reloc). group_of 1 toe rs ++ groups 2 others (drop m (toe_relocs 0 (x ∷ xs) ++ handle_relocs))) (take_at (toe_relocs 0 (x ∷ xs)) handle_relocs m (sym e))
        ∙ ap (λ (rs : List Reloc). group_of 1 toe (toe_relocs 0 (x ∷ xs)) ++ groups 2 others rs) (drop_at (toe_relocs 0 (x ∷ xs)) handle_relocs m (sym e))

-- ---- the draft

abbrev draft : List ℕ → List ℕ → List ℕ → Draft
draft f h n = record { file = f; heads = h; names = n }

from_blank : (f : ℕ) (ps : List Part) → fold added (blank f) ps ≡ draft (replicate f 0 ++ body f ps) (replicate 40 0 ++ heads f 1 ps) (0 ∷ names_of ps)
unfolding blank
from_blank f ps =
    drafted (replicate f 0) (replicate 40 0) (0 ∷ []) ps
    ∙ ap (λ (k : ℕ). draft (replicate f 0 ++ body k ps) (replicate 40 0 ++ heads k 1 ps) (0 ∷ names_of ps)) (length-replicate {A = ℕ} f 0)

closing : (d : Draft) (s t : Part) → closed (added (added d s) t) ≡ fold added d (s ∷ t ∷ names_part (((d.names ++ ended s.name) ++ ended t.name) ++ ended (codes ".shstrtab")) ∷ [])
unfolding closed added
closing d s t = refl

-- all names of sections
abbrev pub all_names : List Part → List ℕ
all_names ps = (((0 ∷ names_of ps) ++ ended (codes ".symtab")) ++ ended (codes ".strtab")) ++ ended (codes ".shstrtab")

pub tables_draft : (f n : ℕ) (ps : List Part) (ss : List Symbol) → with_tables (1 + n) ss (fold added (blank f) ps) ≡ fold added (blank f) (ps ++ tail_parts n ss (all_names ps))
tables_draft f n ps ss =
    let d : Draft = fold added (blank f) ps in
    let s : Part = symbol_part (1 + n + 1) ss in
    let t : Part = strings_part ss in
    closing d s t
    ∙ ap (λ (m : List ℕ). fold added d (s ∷ t ∷ names_part (((m ++ ended s.name) ++ ended t.name) ++ ended (codes ".shstrtab")) ∷ [])) (ap (λ (q : Draft). q.names) (from_blank f ps))
    ∙ sym (fold-append added (blank f) ps (tail_parts n ss (all_names ps)))

zeros_apart : (a b : ℕ) → replicate {A = ℕ} (a + b) 0 ≡ replicate a 0 ++ replicate b 0
zeros_apart a b = sym (replicate-append-replicate {A = ℕ} a b 0)

-- the file of a draft whose parts begin at f, behind a front of a bytes and g zeros
pub filed : (front : List ℕ) (a g f : ℕ) (ps : List Part) → length front ≡ a → a + g ≡ f → file_of front (fold added (blank f) ps) ≡ (front ++ (replicate g 0 ++ (body f ps ++ replicate (padding 4 (f + length (body f ps))) 0))) ++ (replicate 40 0 ++ heads f 1 ps)
filed front a g f ps e sum =
    let text : List ℕ = body f ps in
    let head : List ℕ = replicate 40 0 ++ heads f 1 ps in
    let gap : ℕ → List ℕ = λ k. replicate (padding 4 k) 0 in
    let long : length (replicate f 0 ++ text) ≡ f + length text = omega (arith, length-append (replicate f 0) text, length-replicate {A = ℕ} f 0) in
    let zeros : replicate f 0 ≡ replicate a 0 ++ replicate g 0 = ap (λ (k : ℕ). replicate k 0) (sym sum) ∙ zeros_apart a g in
    ap (file_of front) (from_blank f ps)
    ∙ ap (λ (k : ℕ). (front ++ drop (length front) ((replicate f 0 ++ text) ++ gap k)) ++ head) long
    ∙ ap (λ (z : List ℕ). (front ++ drop (length front) ((z ++ text) ++ gap (f + length text))) ++ head) zeros
    ∙ ap (λ (z : List ℕ). (front ++ drop (length front) z) ++ head) (regroup (replicate a 0) (replicate g 0) text (gap (f + length text)))
    ∙ ap (λ (z : List ℕ). (front ++ z) ++ head) (drop_at (replicate a 0) (replicate g 0 ++ (text ++ gap (f + length text))) (length front) (length-replicate {A = ℕ} a 0 ∙ sym e))
  where
    regroup : (a b c d : List ℕ) → ((a ++ b) ++ c) ++ d ≡ a ++ (b ++ (c ++ d))
    regroup a b c d = simp append_assoc

-- where its section headers begin
pub headers_place : (f : ℕ) (ps : List Part) → length (aligned 4 (fold added (blank f) ps).file) ≡ f + length (body f ps) + padding 4 (f + length (body f ps))
headers_place f ps =
    let long : length (replicate f 0 ++ body f ps) ≡ f + length (body f ps) = omega (arith, length-append (replicate f 0) (body f ps), length-replicate {A = ℕ} f 0) in
    ap (λ (d : Draft). length (aligned 4 d.file)) (from_blank f ps) ∙ length_aligned 4 (replicate f 0 ++ body f ps) ∙ ap (λ (k : ℕ). k + padding 4 k) long

-- ---- one part more

gap_gone : (n : ℕ) (xs : List ℕ) → n ≡ 0 → replicate n 0 ++ xs ≡ xs
gap_gone n xs e = ap (λ (k : ℕ). replicate k 0 ++ xs) e

pub body_step : (p : Part) (ps : List Part) (at k : ℕ) → padding p.step at ≡ 0 → at + length p.bytes ≡ k → body at (p ∷ ps) ≡ p.bytes ++ body k ps
body_step p ps at k none e = gap_gone (padding p.step at) (p.bytes ++ body (at + padding p.step at + length p.bytes) ps) none ∙ ap (λ (n : ℕ). p.bytes ++ body n ps) (omega (arith, none, e))

pub head_step : (p : Part) (ps : List Part) (at len a o k l : ℕ) → place_of len p.name ≡ a → at + padding p.step at ≡ o → o + length p.bytes ≡ k → len + length (ended p.name) ≡ l → heads at len (p ∷ ps) ≡ section_header a o p ++ heads k l ps
head_step p ps at len a o k l ea eo ek el =
    let next : at + padding p.step at + length p.bytes ≡ k = omega (arith, eo, ek) in
    ap (λ (n : ℕ). section_header n (at + padding p.step at) p ++ heads (at + padding p.step at + length p.bytes) (len + length (ended p.name)) ps) ea
    ∙ ap (λ (n : ℕ). section_header a n p ++ heads (at + padding p.step at + length p.bytes) (len + length (ended p.name)) ps) eo
    ∙ ap (λ (n : ℕ). section_header a o p ++ heads n (len + length (ended p.name)) ps) next
    ∙ ap (λ (n : ℕ). section_header a o p ++ heads k n ps) el

-- The spelling of the object of an embedded executable, text by text.
use Rattle.std.proofs.Common.{◌≡◌, ℕ, ◌+◌, ◌-◌, ◌*◌, ◌%◌, Bool, true, false, List, [], ◌∷◌, ◌++◌, length, drop, map, replicate, codes, if◌then◌else◌, ◌==◌, refl, sym, ap, ◌∙◌, append_assoc, ne_eqb, arith}
use Rattle.std.specs.List.{fold, flat_map}
use Rattle.std.proofs.lemmas.List.{length-replicate, length-map}
use Rattle.spu_word.specs.Bytes.{be_digits}
use Rattle.spu_elf.specs.Spelling.{Part, Draft, Group, added, blank, section_part, relocation, relocation_part, symbol_table, with_tables, draft_from, section_header}
use Rattle.spu_elf.specs.Rows.{padding, section_words, data_head, relocations_head}
use Rattle.spu_elf.specs.declared.objects.SecKind.TheVariants as kinds
use Rattle.spu_elf.specs.declared.objects.Section.{Section}
use Rattle.spu_elf.specs.declared.objects.Symbol.{Symbol}
use Rattle.spu_elf.proofs.DraftLemmas.{no_padding_4}
use Rattle.spu_elf.proofs.ExtentLemmas.{length_relocations, length_entries}
use Rattle.spu_elf.proofs.ExecutableSpelling.{body, heads}
use Rattle.spu_elf.proofs.ExecutableTables.{tail_parts, tail_body, tail_heads, three}
use Rattle.spu_cesof.specs.Embedding.{object_sections, object_symbols, entry_symbol, toe_relocs, handle_relocs, object_of, handle_bytes, data_section}
use Rattle.spu_cesof.specs.Outline.{names_size, section_names, image_row, toe_row, handle_row, toe_relocs_row, handle_relocs_row, symbols_row, strings_row, names_row}
use Rattle.spu_cesof.specs.declared.places.Places.{Places}
use Rattle.spu_cesof.proofs.Parts.{toe_group, handle_group, group_list, groups_are, all_names, tables_draft, body_step, head_step}

-- ---- the parts

abbrev pub first_parts : ℕ → List ℕ → List Part
first_parts n file = map section_part (object_sections n file)

abbrev pub object_parts : List (List ℕ) → List ℕ → List Part
object_parts [] file = first_parts 0 file ++ relocation_part 5 handle_group ∷ []
object_parts (x ∷ xs) file = first_parts (length (x ∷ xs)) file ++ relocation_part 6 (toe_group (x ∷ xs)) ∷ relocation_part 6 handle_group ∷ []

-- the number of the section before the symbol table
abbrev pub before_symbols : List (List ℕ) → ℕ
before_symbols [] = 4
before_symbols (x ∷ xs) = 5

abbrev pub all_parts : List ℕ → List (List ℕ) → List ℕ → List Part
all_parts name names file = object_parts names file ++ tail_parts (before_symbols names) (object_symbols name names) (all_names (object_parts names file))

abbrev grouped : List ℕ → List (List ℕ) → List ℕ → List Group → Draft
grouped name names file gs =
    let n = 1 + length (object_sections (length names) file) + length gs in
    with_tables n (object_symbols name names) (fold added (fold added (blank 128) (first_parts (length names) file)) (map (relocation_part n) gs))

pub draft_is : (name : List ℕ) (names : List (List ℕ)) (file : List ℕ) → draft_from 128 (object_of name names file) ≡ fold added (blank 128) (all_parts name names file)
draft_is name names file = ap (grouped name names file) (groups_are (length names) file names) ∙ cases names
  where
    cases : (names : List (List ℕ)) → grouped name names file (group_list names) ≡ fold added (blank 128) (all_parts name names file)
    cases [] = tables_draft 128 4 (object_parts [] file) (object_symbols name [])
    cases (x ∷ xs) = tables_draft 128 5 (object_parts (x ∷ xs) file) (object_symbols name (x ∷ xs))

pub some : (x : List ℕ) (xs : List (List ℕ)) → (length (x ∷ xs) == 0) ≡ false
some x xs = ne_eqb (length (x ∷ xs)) 0 (λ e. omega (arith, e))

names_are : (names : List (List ℕ)) (file : List ℕ) → all_names (object_parts names file) ≡ section_names (length names)
names_are [] file = refl
names_are (x ∷ xs) file = ap (λ (t : Bool). (0 ∷ codes ".rodata.speelf" ++ 0 ∷ codes ".data.spetoe" ++ 0 ∷ codes ".data.spehandle" ++ 0 ∷ []) ++ (if t then [] else codes ".rela.data.spetoe" ++ 0 ∷ []) ++ (codes ".rela.data.spehandle" ++ 0 ∷ codes ".symtab" ++ 0 ∷ codes ".strtab" ++ 0 ∷ codes ".shstrtab" ++ 0 ∷ [])) (sym (some x xs))

-- ---- where they lie

pub record Laid (p : Places) : Type 0 where
  pub toe : p.toe ≡ 128 + p.image_size + padding 16 (128 + p.image_size)
  pub handle : p.handle ≡ p.toe + 16 * p.entries
  pub toe_relocs : p.toe_relocs ≡ p.handle + 12
  pub handle_relocs : p.handle_relocs ≡ p.toe_relocs + 12 * p.entries
  pub symbols : p.symbols ≡ p.handle_relocs + 24
  pub strings : p.strings ≡ p.symbols + 16 * (5 + p.entries)
  pub names : p.names ≡ p.strings + p.strings_size
  pub end : p.end ≡ p.names + names_size p.entries

abbrev pub strings_of : List ℕ → List (List ℕ) → List ℕ
strings_of name names = (symbol_table (object_symbols name names)).strings

abbrev pub entries_of : List ℕ → List (List ℕ) → List ℕ
entries_of name names = (symbol_table (object_symbols name names)).entries

-- places are those of an object with these contents
pub record Fits (p : Places) (name : List ℕ) (names : List (List ℕ)) (file : List ℕ) : Type 0 where
  pub laid : Laid p
  pub image_size : length file ≡ p.image_size
  pub entries : length names ≡ p.entries
  pub strings_size : length (strings_of name names) ≡ p.strings_size
  pub headers : p.headers ≡ p.end + padding 4 p.end

-- ---- the bytes of the parts

abbrev pub body_text : Places → List ℕ → List (List ℕ) → List ℕ → List ℕ
body_text p name names file =
    file ++ (replicate (padding 16 (128 + p.image_size)) 0 ++ (replicate (16 * p.entries) 0 ++ (handle_bytes
    ++ (flat_map relocation (toe_relocs 0 names) ++ (flat_map relocation handle_relocs
    ++ (entries_of name names ++ (strings_of name names ++ section_names p.entries)))))))

pub length_toe : (k : ℕ) (names : List (List ℕ)) → length (flat_map relocation (toe_relocs k names)) ≡ 12 * length names
length_toe k [] = refl
length_toe k (x ∷ xs) = omega (arith, length_toe (k + 1) xs, length_relocations (toe_relocs k (x ∷ xs)), length_relocations (toe_relocs (k + 1) xs))

tail_text : (name : List ℕ) (names : List (List ℕ)) (file : List ℕ) (at : ℕ) → at % 4 ≡ 0 → body at (tail_parts (before_symbols names) (object_symbols name names) (all_names (object_parts names file))) ≡ entries_of name names ++ (strings_of name names ++ section_names (length names))
tail_text name names file at quads =
    tail_body at (before_symbols names) (object_symbols name names) (all_names (object_parts names file)) quads
    ∙ ap (λ (z : List ℕ). entries_of name names ++ (strings_of name names ++ z)) (names_are names file)

quads_of : (p : Places) → Laid p → p.toe % 16 ≡ 0
quads_of p l = omega (arith, l.toe)

-- behind the handle
rest_text : (p : Places) (name : List ℕ) (names : List (List ℕ)) (file : List ℕ) → Laid p → length names ≡ p.entries → (tail : List Part) → (text : List ℕ) → body p.symbols tail ≡ text → body p.toe_relocs (drop 3 (object_parts names file) ++ tail) ≡ flat_map relocation (toe_relocs 0 names) ++ (flat_map relocation handle_relocs ++ text)
rest_text p name [] file l e tail text t =
    let q = quads_of p l in
    body_step (relocation_part 5 handle_group) tail p.toe_relocs p.symbols (no_padding_4 p.toe_relocs (omega (arith, l.toe_relocs, l.handle))) (omega (arith, l.symbols, l.handle_relocs, e))
    ∙ ap (λ (z : List ℕ). flat_map relocation handle_relocs ++ z) t
rest_text p name (x ∷ xs) file l e tail text t =
    let q = quads_of p l in
    let toe : Part = relocation_part 6 (toe_group (x ∷ xs)) in
    let handle : Part = relocation_part 6 handle_group in
    body_step toe (handle ∷ tail) p.toe_relocs p.handle_relocs (no_padding_4 p.toe_relocs (omega (arith, l.toe_relocs, l.handle))) (omega (arith, l.handle_relocs, length_toe 0 (x ∷ xs), e))
    ∙ ap (λ (z : List ℕ). flat_map relocation (toe_relocs 0 (x ∷ xs)) ++ z)
    (body_step handle tail p.handle_relocs p.symbols (no_padding_4 p.handle_relocs (omega (arith, l.handle_relocs, l.toe_relocs, l.handle))) (omega (arith, l.symbols))
    ∙ ap (λ (z : List ℕ). flat_map relocation handle_relocs ++ z) t)

abbrev image_section : List ℕ → Section
image_section file = data_section (codes ".rodata.speelf") kinds.Const 128 file

abbrev toe_section : ℕ → Section
toe_section n = data_section (codes ".data.spetoe") kinds.Vars 16 (replicate (16 * n) 0)

abbrev handle_section : Section
handle_section = data_section (codes ".data.spehandle") kinds.Vars 4 handle_bytes

-- the three sections, and the rest
split : (names : List (List ℕ)) (file : List ℕ) → object_parts names file ≡ first_parts (length names) file ++ drop 3 (object_parts names file)
split [] file = refl
split (x ∷ xs) file = refl

abbrev tail_of : List ℕ → List (List ℕ) → List ℕ → List Part
tail_of name names file = tail_parts (before_symbols names) (object_symbols name names) (all_names (object_parts names file))

abbrev others_of : List ℕ → List (List ℕ) → List ℕ → List Part
others_of name names file = drop 3 (object_parts names file) ++ tail_of name names file

all_are : (name : List ℕ) (names : List (List ℕ)) (file : List ℕ) → all_parts name names file ≡ first_parts (length names) file ++ others_of name names file
all_are name names file = ap (λ (ps : List Part). ps ++ tail_of name names file) (split names file) ∙ append_assoc (first_parts (length names) file) (drop 3 (object_parts names file)) (tail_of name names file)

toe_step : (p : Part) (ps : List Part) (at k n m : ℕ) → p.bytes ≡ replicate n 0 → n ≡ m → at + padding p.step at + m ≡ k → body at (p ∷ ps) ≡ replicate (padding p.step at) 0 ++ (replicate m 0 ++ body k ps)
toe_step p ps at k n m e same next =
    let bytes : p.bytes ≡ replicate m 0 = e ∙ ap (λ (j : ℕ). replicate j 0) same in
    ap (λ (b : List ℕ). replicate (padding p.step at) 0 ++ (b ++ body (at + padding p.step at + length b) ps)) bytes
    ∙ ap (λ (j : ℕ). replicate (padding p.step at) 0 ++ (replicate m 0 ++ body j ps)) (omega (arith, length-replicate {A = ℕ} m 0, next))

pub body_is : (p : Places) (name : List ℕ) (names : List (List ℕ)) (file : List ℕ) → Fits p name names file → body 128 (all_parts name names file) ≡ body_text p name names file
body_is p name names file f =
    let l : Laid p = f.laid in
    let q : p.toe % 16 ≡ 0 = quads_of p l in
    let others : List Part = others_of name names file in
    let n : ℕ = length names in
    let image : Part = section_part (image_section file) in
    let toe : Part = section_part (toe_section n) in
    let handle : Part = section_part handle_section in
    let tail : body p.symbols (tail_of name names file) ≡ entries_of name names ++ (strings_of name names ++ section_names p.entries) =
    tail_text name names file p.symbols (omega (arith, l.symbols, l.handle_relocs, l.toe_relocs, l.handle, q))
    ∙ ap (λ (k : ℕ). entries_of name names ++ (strings_of name names ++ section_names k)) f.entries in
    ap (body 128) (all_are name names file)
    ∙ body_step image (toe ∷ handle ∷ others) 128 (128 + p.image_size) refl (omega (arith, f.image_size))
    ∙ ap (λ (z : List ℕ). file ++ z)
    (toe_step toe (handle ∷ others) (128 + p.image_size) p.handle (16 * n) (16 * p.entries) refl (omega (arith, f.entries)) (omega (arith, l.handle, l.toe))
    ∙ ap (λ (z : List ℕ). replicate (padding 16 (128 + p.image_size)) 0 ++ (replicate (16 * p.entries) 0 ++ z))
    (body_step handle others p.handle p.toe_relocs (omega (arith, l.handle, q)) (omega (arith, l.toe_relocs))
    ∙ ap (λ (z : List ℕ). handle_bytes ++ z) (rest_text p name names file l f.entries (tail_of name names file) _ tail)))

-- ---- section headers

abbrev pub row : List ℕ → List ℕ
row ws = flat_map be_digits ws

-- those of the relocations and of the tables, by whether there are no entries
abbrev later_by : Bool → ℕ
later_by t = 45 + (if t then 0 else 18)

abbrev number_by : Bool → ℕ
number_by t = 9 - 1 + (if t then 0 else 1) - 3

abbrev tables_by : Bool → Places → List ℕ
tables_by t p = three (later_by t + 21) (later_by t + 21 + 8) (later_by t + 21 + 16) p.symbols p.strings p.names (16 * (5 + p.entries)) p.strings_size (later_by t + 21 + 16 + 10) (number_by t + 1) 4

abbrev rest_by : Bool → Places → List ℕ
rest_by t p =
    row (if t then [] else section_words 45 p.toe_relocs (relocations_head (number_by t) 2 (12 * p.entries)))
    ++ (row (section_words (later_by t) p.handle_relocs (relocations_head (number_by t) 3 24)) ++ tables_by t p)

abbrev pub rest_rows : Places → List ℕ
rest_rows p =
    row (toe_relocs_row p) ++ (row (handle_relocs_row p) ++ (row (symbols_row p) ++ (row (strings_row p) ++ (row (names_row p) ++ []))))

abbrev pub rows_text : Places → List ℕ
rows_text p = row (image_row p) ++ (row (toe_row p) ++ (row (handle_row p) ++ rest_rows p))

pub length_names : (n : ℕ) → length (section_names n) ≡ names_size n
length_names n = by_test (n == 0)
  where
    by_test : (t : Bool) → length ((0 ∷ codes ".rodata.speelf" ++ 0 ∷ codes ".data.spetoe" ++ 0 ∷ codes ".data.spehandle" ++ 0 ∷ []) ++ (if t then [] else codes ".rela.data.spetoe" ++ 0 ∷ []) ++ (codes ".rela.data.spehandle" ++ 0 ∷ codes ".symtab" ++ 0 ∷ codes ".strtab" ++ 0 ∷ codes ".shstrtab" ++ 0 ∷ [])) ≡ 45 + (if t then 0 else 18) + 21 + 16 + 10
    by_test true = refl
    by_test false = refl

tables_same : (t k o1 o2 o3 m z q o2' o3' q' : ℕ) → o2 ≡ o2' → o3 ≡ o3' → q ≡ q' → three t (t + 8) (t + 16) o1 o2 o3 m z q k 4 ≡ three t (t + 8) (t + 16) o1 o2' o3' m z q' k 4
tables_same t k o1 o2 o3 m z q o2' o3' q' e f g =
    ap (λ (x : ℕ). three t (t + 8) (t + 16) o1 x o3 m z q k 4) e
    ∙ ap (λ (x : ℕ). three t (t + 8) (t + 16) o1 o2' x m z q k 4) f
    ∙ ap (λ (x : ℕ). three t (t + 8) (t + 16) o1 o2' o3' m z x k 4) g

tail_rows : (p : Places) (name : List ℕ) (names : List (List ℕ)) (file : List ℕ) (len size : ℕ) → Fits p name names file → length (section_names (length names)) ≡ size → heads p.symbols len (tail_of name names file) ≡ three len (len + 8) (len + 16) p.symbols p.strings p.names (16 * (5 + p.entries)) p.strings_size size (before_symbols names + 2) 4
tail_rows p name names file len size f e =
    let l : Laid p = f.laid in
    let q : p.toe % 16 ≡ 0 = quads_of p l in
    let ss : List Symbol = object_symbols name names in
    let m : ℕ = 16 * (5 + p.entries) in
    let em : length (entries_of name names) ≡ m = omega (arith, length_entries ss, length-map names entry_symbol, f.entries) in
    tail_heads p.symbols len (before_symbols names) m p.strings_size size ss (all_names (object_parts names file)) (omega (arith, l.symbols, l.handle_relocs, l.toe_relocs, l.handle, q)) em f.strings_size (ap length (names_are names file) ∙ e)
    ∙ tables_same len (before_symbols names + 2) p.symbols (p.symbols + m) (p.symbols + m + p.strings_size) m p.strings_size size p.strings p.names size (omega (arith, l.strings)) (omega (arith, l.strings, l.names)) refl

rest_heads : (p : Places) (name : List ℕ) (names : List (List ℕ)) (file : List ℕ) → Fits p name names file → heads p.toe_relocs 45 (others_of name names file) ≡ rest_rows p
rest_heads p name [] file f =
    let l : Laid p = f.laid in
    let q : p.toe % 16 ≡ 0 = quads_of p l in
    let none : p.entries ≡ 0 = sym f.entries in
    let t : (p.entries == 0) ≡ true = ap (λ (n : ℕ). n == 0) none in
    let same : p.toe_relocs ≡ p.handle_relocs = omega (arith, l.handle_relocs, none) in
    let handle : Part = relocation_part 5 handle_group in
    head_step handle (tail_of name [] file) p.toe_relocs 45 45 p.handle_relocs p.symbols 66 refl (omega (arith, same, no_padding_4 p.toe_relocs (omega (arith, l.toe_relocs, l.handle, q)))) (omega (arith, l.symbols)) refl
    ∙ ap (λ (z : List ℕ). section_header 45 p.handle_relocs handle ++ z) (tail_rows p name [] file 66 92 f refl)
    ∙ ap (λ (b : Bool). rest_by b p) (sym t)
rest_heads p name (x ∷ xs) file f =
    let l : Laid p = f.laid in
    let q : p.toe % 16 ≡ 0 = quads_of p l in
    let t : (p.entries == 0) ≡ false = ap (λ (n : ℕ). n == 0) (sym f.entries) ∙ some x xs in
    let toe : Part = relocation_part 6 (toe_group (x ∷ xs)) in
    let handle : Part = relocation_part 6 handle_group in
    let size : length (section_names (length (x ∷ xs))) ≡ 110 = length_names (length (x ∷ xs)) ∙ ap (λ (b : Bool). 45 + (if b then 0 else 18) + 21 + 16 + 10) (some x xs) in
    let long : length (flat_map relocation (toe_relocs 0 (x ∷ xs))) ≡ 12 * p.entries = omega (arith, length_toe 0 (x ∷ xs), f.entries) in
    head_step toe (handle ∷ tail_of name (x ∷ xs) file) p.toe_relocs 45 45 p.toe_relocs p.handle_relocs 63 refl (omega (arith, no_padding_4 p.toe_relocs (omega (arith, l.toe_relocs, l.handle, q)))) (omega (arith, l.handle_relocs, long)) refl
    ∙ ap (λ (k : ℕ). row (section_words 45 p.toe_relocs (relocations_head 6 2 k)) ++ heads p.handle_relocs 63 (handle ∷ tail_of name (x ∷ xs) file)) long
    ∙ ap (λ (z : List ℕ). row (section_words 45 p.toe_relocs (relocations_head 6 2 (12 * p.entries))) ++ z)
    (head_step handle (tail_of name (x ∷ xs) file) p.handle_relocs 63 63 p.handle_relocs p.symbols 84 refl (omega (arith, no_padding_4 p.handle_relocs (omega (arith, l.handle_relocs, l.toe_relocs, l.handle, q)))) (omega (arith, l.symbols)) refl
    ∙ ap (λ (z : List ℕ). section_header 63 p.handle_relocs handle ++ z) (tail_rows p name (x ∷ xs) file 84 110 f size))
    ∙ ap (λ (b : Bool). rest_by b p) (sym t)

pub heads_are : (p : Places) (name : List ℕ) (names : List (List ℕ)) (file : List ℕ) → Fits p name names file → heads 128 1 (all_parts name names file) ≡ rows_text p
heads_are p name names file f =
    let l : Laid p = f.laid in
    let q : p.toe % 16 ≡ 0 = quads_of p l in
    let others : List Part = others_of name names file in
    let n : ℕ = length names in
    let image : Part = section_part (image_section file) in
    let toe : Part = section_part (toe_section n) in
    let handle : Part = section_part handle_section in
    let long : length (replicate {A = ℕ} (16 * n) 0) ≡ 16 * p.entries = omega (arith, length-replicate {A = ℕ} (16 * n) 0, f.entries) in
    ap (heads 128 1) (all_are name names file)
    ∙ head_step image (toe ∷ handle ∷ others) 128 1 1 128 (128 + p.image_size) 16 refl refl (omega (arith, f.image_size)) refl
    ∙ ap (λ (k : ℕ). row (section_words 1 128 (data_head kinds.Const k 128)) ++ heads (128 + p.image_size) 16 (toe ∷ handle ∷ others)) f.image_size
    ∙ ap (λ (z : List ℕ). row (image_row p) ++ z)
    (head_step toe (handle ∷ others) (128 + p.image_size) 16 16 p.toe p.handle 29 refl (omega (arith, l.toe)) (omega (arith, l.handle, long)) refl
    ∙ ap (λ (k : ℕ). row (section_words 16 p.toe (data_head kinds.Vars k 16)) ++ heads p.handle 29 (handle ∷ others)) long
    ∙ ap (λ (z : List ℕ). row (toe_row p) ++ z)
    (head_step handle others p.handle 29 29 p.handle p.toe_relocs 45 refl (omega (arith, l.handle, q)) (omega (arith, l.toe_relocs)) refl
    ∙ ap (λ (z : List ℕ). row (handle_row p) ++ z) (rest_heads p name names file f)))

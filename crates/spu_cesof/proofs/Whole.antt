-- The spelling of the object of an embedded executable, and the texts that stand in it, one behind the other.
use Rattle.std.proofs.Common.{◌≡◌, ℕ, ◌+◌, ◌-◌, ◌*◌, ◌<◌, ◌≤◌, Bool, true, false, List, [], ◌∷◌, ◌++◌, length, replicate, if◌then◌else◌, ◌==◌, refl, sym, ap, subst, ◌∙◌, append_assoc, append-nil, arith}
use Rattle.std.specs.List.{flat_map}
use Rattle.std.proofs.lemmas.List.{length-append, length-replicate, length-map}
use Rattle.spu_word.proofs.Stands.{Stands, stands_at}
use Rattle.spu_elf.specs.Spelling.{Draft, Group, groups, relocation, file_of, added, blank}
use Rattle.std.specs.List.{fold}
use Rattle.spu_elf.specs.Rows.{aligned, padding, elf_header, section_words, relocations_head}
use Rattle.spu_elf.proofs.ExtentLemmas.{length_relocations, length_entries}
use Rattle.spu_elf.proofs.ExecutableFields.{stands_join, stands_left, stands_right}
use Rattle.spu_elf.proofs.ExecutableSpelling.{body, heads}
use Rattle.spu_cesof.specs.Embedding.{object_sections, entry_symbol, toe_relocs, handle_relocs, object_symbols, handle_bytes, embedding}
use Rattle.spu_cesof.specs.Outline.{section_count, symbols_number, section_names, image_row, toe_row, handle_row, toe_relocs_row, handle_relocs_row, symbols_row, strings_row, names_row}
use Rattle.spu_cesof.specs.declared.places.Places.{Places}
use Rattle.spu_cesof.proofs.Parts.{group_list, groups_are, filed, headers_place}
use Rattle.spu_cesof.proofs.Spelled.{Laid, Fits, strings_of, entries_of, all_parts, draft_is, body_text, body_is, row, rows_text, heads_are, length_toe, length_names, some}

abbrev pub front_text : Places → List ℕ
front_text p = elf_header 20 1 0 0 p.headers 0 0 (section_count p.entries)

abbrev pub whole : Places → List ℕ → List (List ℕ) → List ℕ → List ℕ
whole p name names file = (front_text p ++ (replicate 76 0 ++ (body_text p name names file ++ replicate (padding 4 p.end) 0))) ++ (replicate 40 0 ++ rows_text p)

pub count_is : (name : List ℕ) (names : List (List ℕ)) (file : List ℕ) → 1 + 3 + length (groups 0 (object_sections (length names) file) (toe_relocs 0 names ++ handle_relocs)) + 3 ≡ section_count (length names)
count_is name names file = ap (λ (gs : List Group). 1 + 3 + length gs + 3) (groups_are (length names) file names) ∙ cases names
  where
    cases : (names : List (List ℕ)) → 1 + 3 + length (group_list names) + 3 ≡ section_count (length names)
    cases [] = refl
    cases (x ∷ xs) = ap (λ (t : Bool). 9 - 1 + (if t then 0 else 1)) (sym (some x xs))

pub length_body : (p : Places) (name : List ℕ) (names : List (List ℕ)) (file : List ℕ) → Fits p name names file → 128 + length (body_text p name names file) ≡ p.end
length_body p name names file f =
    let l : Laid p = f.laid in
    let gap : List ℕ = replicate (padding 16 (128 + p.image_size)) 0 in
    let toe : List ℕ = replicate (16 * p.entries) 0 in
    let trel : List ℕ = flat_map relocation (toe_relocs 0 names) in
    let hrel : List ℕ = flat_map relocation handle_relocs in
    let t8 : List ℕ = strings_of name names ++ section_names p.entries in
    let t7 : List ℕ = entries_of name names ++ t8 in
    let t6 : List ℕ = hrel ++ t7 in
    let t5 : List ℕ = trel ++ t6 in
    let t4 : List ℕ = handle_bytes ++ t5 in
    let t3 : List ℕ = toe ++ t4 in
    omega (
      arith,
      length-append file (gap ++ t3),
      length-append gap t3,
      length-append toe t4,
      length-append handle_bytes t5,
      length-append trel t6,
      length-append hrel t7,
      length-append (entries_of name names) t8,
      length-append (strings_of name names) (section_names p.entries),
      length-replicate {A = ℕ} (padding 16 (128 + p.image_size)) 0,
      length-replicate {A = ℕ} (16 * p.entries) 0,
      length_toe 0 names,
      length_relocations handle_relocs,
      length_entries (object_symbols name names),
      length-map names entry_symbol,
      length_names p.entries,
      f.image_size,
      f.entries,
      f.strings_size,
      l.toe,
      l.handle,
      l.toe_relocs,
      l.handle_relocs,
      l.symbols,
      l.strings,
      l.names,
      l.end,
    )

pub spelled : (p : Places) (name : List ℕ) (names : List (List ℕ)) (file : List ℕ) → Fits p name names file → embedding name names file ≡ whole p name names file
unfolding embedding
spelled p name names file f =
    let ps = all_parts name names file in
    let d : Draft = fold added (blank 128) ps in
    let n : ℕ = 1 + 3 + length (groups 0 (object_sections (length names) file) (toe_relocs 0 names ++ handle_relocs)) + 3 in
    let end : 128 + length (body 128 ps) ≡ p.end = ap (λ (z : List ℕ). 128 + length z) (body_is p name names file f) ∙ length_body p name names file f in
    let place : length (aligned 4 d.file) ≡ p.headers = headers_place 128 ps ∙ ap (λ (k : ℕ). k + padding 4 k) end ∙ sym f.headers in
    let count : n ≡ section_count p.entries = count_is name names file ∙ ap section_count f.entries in
    ap (λ (q : Draft). file_of (elf_header 20 1 0 0 (length (aligned 4 q.file)) 0 0 n) q) (draft_is name names file)
    ∙ ap (λ (k : ℕ). file_of (elf_header 20 1 0 0 k 0 0 n) d) place
    ∙ ap (λ (k : ℕ). file_of (elf_header 20 1 0 0 p.headers 0 0 k) d) count
    ∙ filed (front_text p) 52 76 128 ps refl refl
    ∙ ap (λ (k : ℕ). (front_text p ++ (replicate 76 0 ++ (body 128 ps ++ replicate (padding 4 k) 0))) ++ (replicate 40 0 ++ heads 128 1 ps)) end
    ∙ ap (λ (z : List ℕ). (front_text p ++ (replicate 76 0 ++ (z ++ replicate (padding 4 p.end) 0))) ++ (replicate 40 0 ++ heads 128 1 ps)) (body_is p name names file f)
    ∙ ap (λ (z : List ℕ). (front_text p ++ (replicate 76 0 ++ (body_text p name names file ++ replicate (padding 4 p.end) 0))) ++ (replicate 40 0 ++ z)) (heads_are p name names file f)

-- ---- texts one behind the other

pub record Piece : Type 0 where
  pub place : ℕ
  pub text : List ℕ

abbrev pub piece : ℕ → List ℕ → Piece
piece k t = record { place = k; text = t }

-- each begins where the one before it ends
abbrev pub Follow : ℕ → List Piece → Type 0
Follow at [] = Unit {0}
Follow at (x ∷ xs) = (at ≡ x.place) × Follow (x.place + length x.text) xs

abbrev pub AllStand : List ℕ → List Piece → Type 0
AllStand b [] = Unit {0}
AllStand b (x ∷ xs) = Stands x.place x.text b × AllStand b xs

abbrev pub together : List Piece → List ℕ
together [] = []
together (x ∷ xs) = x.text ++ together xs

pub all_apart : (b : List ℕ) (at : ℕ) (xs : List Piece) → Follow at xs → Stands at (together xs) b → AllStand b xs
all_apart b at [] f s = tt
all_apart b at (x ∷ xs) f s =
    let t : Stands x.place (together (x ∷ xs)) b = stands_at at x.place (together (x ∷ xs)) b f.0 s in
    (stands_left x.place x.text (together xs) b t, all_apart b (x.place + length x.text) xs f.1 (stands_right x.place (x.place + length x.text) x.text (together xs) b refl t))

pub all_joined : (b : List ℕ) (at : ℕ) (x : Piece) (xs : List Piece) → Follow at (x ∷ xs) → AllStand b (x ∷ xs) → Stands at (together (x ∷ xs)) b
all_joined b at x [] f s = subst (λ (k : ℕ). Stands k (x.text ++ []) b) (sym f.0) (subst (λ (t : List ℕ). Stands x.place t b) (sym (append-nil x.text)) s.0)
all_joined b at x (y ∷ ys) f s =
    let rest : Stands (x.place + length x.text) (together (y ∷ ys)) b = all_joined b (x.place + length x.text) y ys f.1 s.1 in
    subst (λ (k : ℕ). Stands k (together (x ∷ y ∷ ys)) b) (sym f.0) (stands_join x.place (x.place + length x.text) x.text (together (y ∷ ys)) b refl s.0 rest)

pub all_together : (b : List ℕ) (at : ℕ) (xs : List Piece) → 0 < length xs → Follow at xs → AllStand b xs → Stands at (together xs) b
all_together b at [] lt f s = absurd (omega arith)
all_together b at (x ∷ xs) lt f s = all_joined b at x xs f s

-- ---- those of the object

abbrev pub pieces : Places → List ℕ → List (List ℕ) → List ℕ → List Piece
pieces p name names file =
    piece 0 (front_text p)
    ∷ piece 52 (replicate 76 0)
    ∷ piece 128 file
    ∷ piece (128 + p.image_size) (replicate (padding 16 (128 + p.image_size)) 0)
    ∷ piece p.toe (replicate (16 * p.entries) 0)
    ∷ piece p.handle handle_bytes
    ∷ piece p.toe_relocs (flat_map relocation (toe_relocs 0 names))
    ∷ piece p.handle_relocs (flat_map relocation handle_relocs)
    ∷ piece p.symbols (entries_of name names)
    ∷ piece p.strings (strings_of name names)
    ∷ piece p.names (section_names p.entries)
    ∷ piece p.end (replicate (padding 4 p.end) 0)
    ∷ piece p.headers (replicate 40 0)
    ∷ piece (p.headers + 40 * 1) (row (image_row p))
    ∷ piece (p.headers + 40 * 2) (row (toe_row p))
    ∷ piece (p.headers + 40 * 3) (row (handle_row p))
    ∷ piece (p.headers + 40 * 4) (row (toe_relocs_row p))
    ∷ piece (p.headers + 40 * (symbols_number p.entries - 1)) (row (handle_relocs_row p))
    ∷ piece (p.headers + 40 * symbols_number p.entries) (row (symbols_row p))
    ∷ piece (p.headers + 40 * (symbols_number p.entries + 1)) (row (strings_row p))
    ∷ piece (p.headers + 40 * (symbols_number p.entries + 2)) (row (names_row p))
    ∷ []

pub together_is : (p : Places) (name : List ℕ) (names : List (List ℕ)) (file : List ℕ) → together (pieces p name names file) ≡ whole p name names file
together_is p name names file = sym (simp append_assoc)

-- the header of the table's relocations, where there is one
abbrev number_by : Bool → ℕ
number_by t = 9 - 1 + (if t then 0 else 1) - 3

relocs_by : (p : Places) (t : Bool) → p.headers + 40 * 4 + length (row (if t then [] else section_words 45 p.toe_relocs (relocations_head (number_by t) 2 (12 * p.entries)))) ≡ p.headers + 40 * (number_by t - 1)
relocs_by p true = omega arith
relocs_by p false = omega arith

pub some_by : (t : Bool) → 5 ≤ number_by t
some_by true = omega arith
some_by false = omega arith

pub follow : (p : Places) (name : List ℕ) (names : List (List ℕ)) (file : List ℕ) → Fits p name names file → Follow 0 (pieces p name names file)
follow p name names file f =
    let l : Laid p = f.laid in
    let k : ℕ = symbols_number p.entries in
    let five : 5 ≤ k = some_by (p.entries == 0) in (
      refl,
      (
        refl,
        (
          refl,
          (
            omega (arith, f.image_size),
            (
              omega (arith, length-replicate {A = ℕ} (padding 16 (128 + p.image_size)) 0, l.toe),
              (
                omega (arith, length-replicate {A = ℕ} (16 * p.entries) 0, l.handle),
                (
                  omega (arith, l.toe_relocs),
                  (
                    omega (arith, length_toe 0 names, f.entries, l.handle_relocs),
                    (
                      omega (arith, l.symbols),
                      (
                        omega (arith, length_entries (object_symbols name names), length-map names entry_symbol, f.entries, l.strings),
                        (
                          omega (arith, f.strings_size, l.names),
                          (
                            omega (arith, length_names p.entries, l.end),
                            (
                              omega (arith, length-replicate {A = ℕ} (padding 4 p.end) 0, f.headers),
                              (
                                omega arith,
                                (
                                  omega arith,
                                  (
                                    omega arith,
                                    (
                                      omega arith,
                                      (
                                        relocs_by p (p.entries == 0),
                                        (omega (arith, five), (omega arith, (omega arith, tt))),
                                      ),
                                    ),
                                  ),
                                ),
                              ),
                            ),
                          ),
                        ),
                      ),
                    ),
                  ),
                ),
              ),
            ),
          ),
        ),
      ),
    )

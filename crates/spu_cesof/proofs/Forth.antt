-- The embedding of an executable has no fault, and is read as that executable.
use Rattle.std.proofs.Common.{◌≡◌, ℕ, zero, suc, ◌+◌, ◌-◌, ◌*◌, ◌/◌, ◌^◌, ◌<◌, ◌≤◌, Bool, true, false, not, List, [], ◌∷◌, ◌++◌, length, take, drop, replicate, slice_index, None, nat_lt, if◌then◌else◌, ◌==◌, refl, sym, ap, subst, ◌∙◌, eq-eqb, ne_eqb, lit<, arith}
use Rattle.std.specs.List.{flat_map, All, AllByRecursion}
use Rattle.std.proofs.lemmas.Bool.{le-ltb, eqb-true}
use Rattle.spu_word.specs.Bytes.{be_digits, be_half_digits, be_number, be_half_number}
use Rattle.spu_word.proofs.Stands.{Stands, stands_at, stands_inner, stands_number}
use Rattle.spu_elf.specs.Checks.{fails, words_check, halves_check}
use Rattle.spu_elf.specs.Reading.{ident_checks}
use Rattle.spu_elf.specs.Rows.{padding, elf_header, section_words, relocations_head}
use Rattle.spu_elf.specs.Validity.{IsName}
use Rattle.spu_elf.specs.declared.faults.ElfKind.{ElfKind}
use Rattle.spu_elf.specs.declared.faults.ElfKind.TheVariants as kinds
use Rattle.spu_elf.proofs.SpelledSymbols.{byte_stands, half_stands}
use Rattle.spu_elf.proofs.ExecutableFields.{pass_both, passing, words_pass, halves_pass, bytes_pass, stands_left, stands_right}
use Rattle.spu_cesof.specs.Outline.{section_count, symbols_number, sections_in, entries_in, at_least_one, places_with, places_in, image_row, toe_row, handle_row, toe_relocs_row, handle_relocs_row, symbols_row, strings_row, names_row}
use Rattle.spu_cesof.specs.Unpacking.{front_check, sections_check, relocs_rows_check, tables_check, heads_check}
use Rattle.spu_cesof.specs.declared.places.Places.{Places}
use Rattle.spu_cesof.proofs.Spelled.{Laid, Fits, row}
use Rattle.spu_cesof.proofs.Whole.{AllStand, pieces, front_text}

-- an object of these contents
pub record IsObject (b : List ℕ) (p : Places) (name : List ℕ) (names : List (List ℕ)) (file : List ℕ) : Type 0 where
  pub fits : Fits p name names file
  pub places : p ≡ places_with p.headers p.image_size p.entries p.strings_size
  pub there : AllStand b (pieces p name names file)
  pub long : length b ≡ p.headers + 40 * section_count p.entries
  pub small : length b ≤ 4194304
  pub named : IsName name
  pub each : All IsName names

-- ---- what is read

number_in_row : (b : List ℕ) (at v : ℕ) (ws us : List ℕ) → v < 2 ^ 32 → Stands at (row ws ++ (be_digits v ++ row us)) b → be_number b (at + length (row ws)) ≡ v
number_in_row b at v ws us lt s = stands_number (at + length (row ws)) v b lt (stands_inner at (row ws) (be_digits v) (row us) b s)

eight : (t : Bool) → (if (9 - 1 + (if t then 0 else 1)) == 8 then 8 else 9) ≡ 9 - 1 + (if t then 0 else 1)
eight true = refl
eight false = refl

entries_by : (n : ℕ) (t : Bool) → (n == 0) ≡ t → (if (9 - 1 + (if t then 0 else 1)) == 9 then (if t then 1 else n) else 0) ≡ n
entries_by n true e = sym (eqb-true n 0 e)
entries_by n false e = refl

strings_by : (n : ℕ) → 0 < n → at_least_one n ≡ n
strings_by n lt = ap (λ (t : Bool). if t then 1 else n) (ne_eqb n 0 (λ e. omega (arith, e)))

pub record Read (b : List ℕ) (p : Places) : Type 0 where
  pub shoff : be_number b 32 ≡ p.headers
  pub sections : sections_in b ≡ section_count p.entries
  pub places : places_in b ≡ p

pub read : (b : List ℕ) (p : Places) (name : List ℕ) (names : List (List ℕ)) (file : List ℕ) → IsObject b p name names file → 0 < p.strings_size → Read b p
unfolding places_in
read b p name names file w some =
    let h : ℕ = p.headers in
    let n : ℕ = p.entries in
    let l : Laid p = w.fits.laid in
    let long = w.long in
    let small = w.small in
    let head : h < 2 ^ 32 = omega (arith, long, small) in
    let end : p.end ≤ h = omega (arith, w.fits.headers) in
    let lens : (p.image_size ≤ h) × (16 * n ≤ h) × (p.strings_size ≤ h) = (omega (arith, l.toe, l.handle, l.toe_relocs, l.handle_relocs, l.symbols, l.strings, l.names, l.end, end), omega (arith, l.handle, l.toe_relocs, l.handle_relocs, l.symbols, l.strings, l.names, l.end, end), omega (arith, l.names, l.end, end)) in
    let shoff : be_number b 32 ≡ h = stands_number 32 h b head (stands_inner 0 (take 32 (front_text p)) (be_digits h) (drop 36 (front_text p)) b w.there.0) in
    let shnum : be_half_number b 48 ≡ section_count n = half_stands 48 (section_count n) b (few (n == 0)) (stands_inner 0 (take 48 (front_text p)) (be_half_digits (section_count n)) (drop 50 (front_text p)) b w.there.0) in
    let sections : sections_in b ≡ section_count n = ap (λ (k : ℕ). if k == 8 then 8 else 9) shnum ∙ eight (n == 0) in
    let size : be_number b (h + 60) ≡ p.image_size = ap (be_number b) (omega arith) ∙ number_in_row b (h + 40 * 1) p.image_size (take 5 (image_row p)) (drop 6 (image_row p)) (omega (arith, lens.0, head)) w.there.1.1.1.1.1.1.1.1.1.1.1.1.1.0 in
    let toe : be_number b (h + 100) ≡ 16 * n = ap (be_number b) (omega arith) ∙ number_in_row b (h + 40 * 2) (16 * n) (take 5 (toe_row p)) (drop 6 (toe_row p)) (omega (arith, lens.1, head)) w.there.1.1.1.1.1.1.1.1.1.1.1.1.1.1.0 in
    let five : 5 ≤ symbols_number n = at_five (n == 0) in
    let place : h + (40 * (section_count n - 2) + 20) ≡ h + 40 * (symbols_number n + 1) + 20 = omega (arith, five) in
    let strings : be_number b (h + (40 * (section_count n - 2) + 20)) ≡ p.strings_size = ap (be_number b) place ∙ number_in_row b (h + 40 * (symbols_number n + 1)) p.strings_size (take 5 (strings_row p)) (drop 6 (strings_row p)) (omega (arith, lens.2, head)) w.there.1.1.1.1.1.1.1.1.1.1.1.1.1.1.1.1.1.1.1.0 in
    let divided : 16 * n / 16 ≡ n = omega arith in
    let entries : entries_in b ≡ n =
    ap (λ (s : ℕ). if s == 9 then at_least_one (be_number b (be_number b 32 + 100) / 16) else 0) sections
    ∙ ap (λ (s : ℕ). if section_count n == 9 then at_least_one (be_number b (s + 100) / 16) else 0) shoff
    ∙ ap (λ (s : ℕ). if section_count n == 9 then at_least_one (s / 16) else 0) toe
    ∙ ap (λ (s : ℕ). if section_count n == 9 then at_least_one s else 0) divided
    ∙ entries_by n (n == 0) refl in
    record {
      shoff = shoff;
      sections = sections;
      places =
          ap (λ (s : ℕ). places_with s (be_number b (s + 60)) (entries_in b) (at_least_one (be_number b (s + (40 * (sections_in b - 2) + 20))))) shoff
          ∙ ap (λ (s : ℕ). places_with h s (entries_in b) (at_least_one (be_number b (h + (40 * (sections_in b - 2) + 20))))) size
          ∙ ap (λ (s : ℕ). places_with h p.image_size s (at_least_one (be_number b (h + (40 * (sections_in b - 2) + 20))))) entries
          ∙ ap (λ (s : ℕ). places_with h p.image_size n (at_least_one (be_number b (h + (40 * (s - 2) + 20))))) sections
          ∙ ap (λ (s : ℕ). places_with h p.image_size n (at_least_one s)) strings
          ∙ ap (λ (s : ℕ). places_with h p.image_size n s) (strings_by p.strings_size some)
          ∙ sym w.places;
    }
  where
    few : (t : Bool) → 9 - 1 + (if t then 0 else 1) < 65536
    few true = lit< tt
    few false = lit< tt

    at_five : (t : Bool) → 5 ≤ 9 - 1 + (if t then 0 else 1) - 3
    at_five true = omega arith
    at_five false = omega arith

-- ---- the header of the file

equal : (x y : ℕ) (kind : ElfKind) (place : ℕ) → x ≡ y → fails (not (x == y)) kind place ≡ None
equal x y kind place e = passing (not (x == y)) kind place (ap not (eq-eqb x y e))

abbrev header : ℕ → ℕ → List ℕ
header s n = elf_header 20 1 0 0 s 0 0 n

idents : (b : List ℕ) (s n : ℕ) → 52 ≤ length b → length b ≤ 4194304 → Stands 0 (header s n) b → ident_checks 20 1 b ≡ None
unfolding ident_checks
idents b s n long small st =
    let h : List ℕ = header s n in
    let magic : be_number b 0 ≡ 0x7f454c46 = stands_number 0 0x7f454c46 b (lit< tt) (stands_inner 0 [] (be_digits 0x7f454c46) (drop 4 h) b st) in
    let class : slice_index b 4 ≡ 1 = byte_stands 4 1 b (stands_inner 0 (take 4 h) (1 ∷ []) (drop 5 h) b st) in
    let order : slice_index b 5 ≡ 2 = byte_stands 5 2 b (stands_inner 0 (take 5 h) (2 ∷ []) (drop 6 h) b st) in
    let version : slice_index b 6 ≡ 1 = byte_stands 6 1 b (stands_inner 0 (take 6 h) (1 ∷ []) (drop 7 h) b st) in
    let machine : be_half_number b 18 ≡ 20 = half_stands 18 20 b (lit< tt) (stands_inner 0 (take 18 h) (be_half_digits 20) (drop 20 h) b st) in
    let kind : be_half_number b 16 ≡ 1 = half_stands 16 1 b (lit< tt) (stands_inner 0 (take 16 h) (be_half_digits 1) (drop 18 h) b st) in
    pass_both _ _ (passing (nat_lt 4194304 (length b)) _ _ (le-ltb _ _ small))
    (pass_both _ _ (passing (nat_lt (length b) 52) _ _ (le-ltb _ _ long))
    (pass_both _ _ (equal _ _ kinds.NotElf 0 magic)
    (pass_both _ _ (equal _ _ kinds.WrongClass 4 class)
    (pass_both _ _ (equal _ _ kinds.WrongClass 5 order)
    (pass_both _ _ (equal _ _ kinds.WrongClass 6 version)
    (pass_both _ _ (equal _ _ kinds.WrongMachine 18 machine) (equal _ _ kinds.WrongKind 16 kind)))))))

pub front_passes : (b : List ℕ) (s n : ℕ) → 52 ≤ length b → length b ≤ 4194304 → s < 2 ^ 32 → n ≤ 9 → be_number b 32 ≡ s → sections_in b ≡ n → Stands 0 (header s n) b → front_check b ≡ None
unfolding front_check
front_passes b s n long small near few shoff sections st =
    let h : List ℕ = header s n in
    let words : words_check b kinds.BadTable 20 (1 ∷ 0 ∷ 0 ∷ s ∷ 0 ∷ []) ≡ None = words_pass b kinds.BadTable 20 (1 ∷ 0 ∷ 0 ∷ s ∷ 0 ∷ []) (lit< tt, (lit< tt, (lit< tt, (near, (lit< tt, tt))))) (stands_inner 0 (take 20 h) (flat_map be_digits (1 ∷ 0 ∷ 0 ∷ s ∷ 0 ∷ [])) (drop 40 h) b st) in
    let halves : halves_check b kinds.BadTable 40 (52 ∷ 0 ∷ 0 ∷ 40 ∷ n ∷ (n - 1) ∷ []) ≡ None = halves_pass b kinds.BadTable 40 (52 ∷ 0 ∷ 0 ∷ 40 ∷ n ∷ (n - 1) ∷ []) (lit< tt, (lit< tt, (lit< tt, (lit< tt, (omega arith, (omega arith, tt)))))) (stands_inner 0 (take 40 h) (flat_map be_half_digits (52 ∷ 0 ∷ 0 ∷ 40 ∷ n ∷ (n - 1) ∷ [])) [] b st) in
    pass_both _ _ (idents b s n long small st)
    (pass_both _ _ (bytes_pass b kinds.BadTable 7 (replicate 9 0) (stands_inner 0 (take 7 h) (replicate 9 0) (drop 16 h) b st))
    (pass_both _ _ (subst (λ (x : ℕ). words_check b kinds.BadTable 20 (1 ∷ 0 ∷ 0 ∷ x ∷ 0 ∷ []) ≡ None) (sym shoff) words)
    (subst (λ (x : ℕ). halves_check b kinds.BadTable 40 (52 ∷ 0 ∷ 0 ∷ 40 ∷ x ∷ (x - 1) ∷ []) ≡ None) (sym sections) halves)))

-- ---- section headers

abbrev Small : List ℕ → Type 0
Small ws = AllByRecursion (λ v. v < 2 ^ 32) ws

small_take : (n : ℕ) (ws : List ℕ) → Small ws → Small (take n ws)
small_take zero ws s = tt
small_take (suc n) [] s = tt
small_take (suc n) (w ∷ ws) s = (s.0, small_take n ws s.1)

small_drop : (n : ℕ) (ws : List ℕ) → Small ws → Small (drop n ws)
small_drop zero ws s = s
small_drop (suc n) [] s = tt
small_drop (suc n) (w ∷ ws) s = small_drop n ws s.1

pub heads_pass : (b : List ℕ) (p : Places) (name : List ℕ) (names : List (List ℕ)) (file : List ℕ) → IsObject b p name names file → heads_check b p ≡ None
unfolding heads_check sections_check relocs_rows_check tables_check
heads_pass b p name names file w =
    let h : ℕ = p.headers in
    let n : ℕ = p.entries in
    let k : ℕ = symbols_number n in
    let l : Laid p = w.fits.laid in
    let small = w.small in
    let long = w.long in
    let end : p.end ≤ h = omega (arith, w.fits.headers) in
    let far : h < 2 ^ 23 = omega (arith, long, small) in
    let e8 : p.names ≤ p.end = omega (arith, l.end) in
    let e7 : p.strings ≤ p.end = omega (arith, l.names, e8) in
    let e6 : p.symbols ≤ p.end = omega (arith, l.strings, e7) in
    let e5 : p.handle_relocs ≤ p.end = omega (arith, l.symbols, e6) in
    let e4 : p.toe_relocs ≤ p.end = omega (arith, l.handle_relocs, e5) in
    let e3 : p.handle ≤ p.end = omega (arith, l.toe_relocs, e4) in
    let e2 : p.toe ≤ p.end = omega (arith, l.handle, e3) in
    let e1 : p.image_size ≤ p.end = omega (arith, l.toe, e2) in
    let e0 : 16 * n ≤ p.end = omega (arith, l.handle, e3) in
    let s0 : p.strings_size ≤ p.end = omega (arith, l.names, e8) in
    let t = tests (n == 0) in
    let symbols : List ℕ = symbols_row p in
    let symbols_small : Small symbols = (omega (arith, t.1), (lit< tt, (lit< tt, (lit< tt, (omega (arith, e6, end, far), (omega (arith, e0, end, far), (omega (arith, t.0), (lit< tt, (lit< tt, (lit< tt, tt)))))))))) in
    pass_both _ _
    (pass_both _ _ (words_pass b kinds.BadTable (h + 40 * 0) (replicate 10 0) (lit< tt, (lit< tt, (lit< tt, (lit< tt, (lit< tt, (lit< tt, (lit< tt, (lit< tt, (lit< tt, (lit< tt, tt)))))))))) (stands_at h (h + 40 * 0) (replicate 40 0) b (omega arith) w.there.1.1.1.1.1.1.1.1.1.1.1.1.0))
    (pass_both _ _ (words_pass b kinds.BadTable (h + 40 * 1) (image_row p) (lit< tt, (lit< tt, (lit< tt, (lit< tt, (lit< tt, (omega (arith, e1, end, far), (lit< tt, (lit< tt, (lit< tt, (lit< tt, tt)))))))))) w.there.1.1.1.1.1.1.1.1.1.1.1.1.1.0)
    (pass_both _ _ (words_pass b kinds.BadTable (h + 40 * 2) (toe_row p) (lit< tt, (lit< tt, (lit< tt, (lit< tt, (omega (arith, e2, end, far), (omega (arith, e0, end, far), (lit< tt, (lit< tt, (lit< tt, (lit< tt, tt)))))))))) w.there.1.1.1.1.1.1.1.1.1.1.1.1.1.1.0)
    (words_pass b kinds.BadTable (h + 40 * 3) (handle_row p) (lit< tt, (lit< tt, (lit< tt, (lit< tt, (omega (arith, e3, end, far), (lit< tt, (lit< tt, (lit< tt, (lit< tt, (lit< tt, tt)))))))))) w.there.1.1.1.1.1.1.1.1.1.1.1.1.1.1.1.0))))
    (pass_both _ _
    (pass_both _ _ (words_pass b kinds.BadTable (h + 40 * 4) (toe_relocs_row p) (relocs_small (n == 0) (omega (arith, e4, end, far)) (omega (arith, t.0)) (omega (arith, e0, end, far))) w.there.1.1.1.1.1.1.1.1.1.1.1.1.1.1.1.1.0)
    (words_pass b kinds.BadTable (h + 40 * (k - 1)) (handle_relocs_row p) (omega (arith, t.2), (lit< tt, (lit< tt, (lit< tt, (omega (arith, e5, end, far), (lit< tt, (omega (arith, t.0), (lit< tt, (lit< tt, (lit< tt, tt)))))))))) w.there.1.1.1.1.1.1.1.1.1.1.1.1.1.1.1.1.1.0))
    (pass_both _ _
    (pass_both _ _ (words_pass b kinds.BadTable (h + 40 * k) (take 7 symbols) (small_take 7 symbols symbols_small) (stands_left (h + 40 * k) (row (take 7 symbols)) (be_digits 4 ++ row (drop 8 symbols)) b w.there.1.1.1.1.1.1.1.1.1.1.1.1.1.1.1.1.1.1.0))
    (pass_both _ _ (words_pass b kinds.BadTable (h + 40 * k + 32) (drop 8 symbols) (small_drop 8 symbols symbols_small) (stands_right (h + 40 * k) (h + 40 * k + 32) (row (take 8 symbols)) (row (drop 8 symbols)) b refl w.there.1.1.1.1.1.1.1.1.1.1.1.1.1.1.1.1.1.1.0))
    (pass_both _ _ (words_pass b kinds.BadTable (h + 40 * (k + 1)) (strings_row p) (omega (arith, t.1), (lit< tt, (lit< tt, (lit< tt, (omega (arith, e7, end, far), (omega (arith, s0, end, far), (lit< tt, (lit< tt, (lit< tt, (lit< tt, tt)))))))))) w.there.1.1.1.1.1.1.1.1.1.1.1.1.1.1.1.1.1.1.1.0)
    (words_pass b kinds.BadTable (h + 40 * (k + 2)) (names_row p) (omega (arith, t.1), (lit< tt, (lit< tt, (lit< tt, (omega (arith, e8, end, far), (omega (arith, t.1), (lit< tt, (lit< tt, (lit< tt, (lit< tt, tt)))))))))) w.there.1.1.1.1.1.1.1.1.1.1.1.1.1.1.1.1.1.1.1.1.0))))
    (passing (not (h == p.end + padding 4 p.end)) kinds.BadTable 32 (ap not (eq-eqb _ _ w.fits.headers)))))
  where
    tests : (t : Bool) → (9 - 1 + (if t then 0 else 1) - 3 ≤ 6) × (45 + (if t then 0 else 18) + 21 ≤ 100) × (45 + (if t then 0 else 18) ≤ 100)
    tests true = (omega arith, omega arith, omega arith)
    tests false = (omega arith, omega arith, omega arith)

    relocs_small : (t : Bool) → p.toe_relocs < 2 ^ 32 → symbols_number p.entries < 2 ^ 32 → 12 * p.entries < 2 ^ 32 → Small (if t then [] else section_words 45 p.toe_relocs (relocations_head (symbols_number p.entries) 2 (12 * p.entries)))
    relocs_small true near few size = tt
    relocs_small false near few size = (lit< tt, (lit< tt, (lit< tt, (lit< tt, (near, (size, (few, (lit< tt, (lit< tt, (lit< tt, tt))))))))))

-- The object of a workload is well formed.
use Rattle.std.proofs.Common.{◌≡◌, ◌≢◌, ℕ, zero, suc, ◌+◌, ◌*◌, ◌<◌, ◌≤◌, ◌^◌, lit≤, ◌==◌, Bool, true, false, List, [], ◌∷◌, ◌++◌, length, replicate, Some, None, refl, sym, subst, ap, ◌∙◌, arith}
use Rattle.std.specs.Prelude.{slice_get, nat_le, codes, if◌then◌else◌}
use Rattle.std.specs.Fmt.{decimal}
use Rattle.std.specs.Int.{is_power_of_two}
use Rattle.std.specs.List.{All, flat_map, list_all, range_with_len}
use Rattle.std.specs.Str.Parse.{AllDigits}
use Rattle.std.proofs.lemmas.Bool.{leb-true}
use Rattle.std.proofs.lemmas.Fmt.{decimal_is_IsNumeral, length-decimal-le}
use Rattle.std.proofs.lemmas.Str.Parse.{digit_from_value}
use Rattle.std.proofs.lemmas.List.{length-append, length-map}
use Rattle.std.proofs.lemmas.List.Elements.{All-append, All-cons, All-map, All-nil}
use Rattle.std.proofs.lemmas.List.FromFn.{length-map-range_with_len}
use Rattle.spu_word.specs.declared.limits.TheConstants.{QUAD_SIZE, WORD_SIZE}
use Rattle.spu_word.specs.Bytes.{be_digits}
use Rattle.spu_isa.specs.Decoding.{decoded}
use Rattle.spu_elf.specs.declared.objects.Object.{Object}
use Rattle.spu_elf.specs.declared.objects.SecKind.TheVariants as kinds
use Rattle.spu_elf.specs.declared.objects.Section.{Section}
use Rattle.spu_elf.specs.declared.objects.SymPlace.TheVariants as places
use Rattle.spu_elf.specs.Validity.{bytes_len, is_printed, EndsIn, IsName, IsWellFormedSection}
use Rattle.spu_elf.specs.WellFormed.{IsWellFormed, IsWellFormedReloc, IsWellFormedSymbol}
use Rattle.spu_elf.proofs.Failing.{left_true, right_true}
use Rattle.spu_gen.specs.declared.lines.Line.{Line}
use Rattle.spu_gen.specs.declared.lines.Line.TheVariants.{Address, Call, Load, Nop, Send}
use Rattle.spu_gen.specs.declared.lines.TheConstants.{MAX_LINES, MAX_SENDERS}
use Rattle.spu_gen.specs.Workloads.{AreWords, bare, call_of, code_of, draw, enters, IsSectionOf, IsWorkload, leaves, lines_of, main_code, padding, relocation_of, relocations, sender_code, symbol_name, symbol_of}
use Rattle.spu_gen.proofs.Codes.{code_short}

-- ---- names

abbrev IsPrinted : ℕ → Type 0
IsPrinted c = (33 ≤ c) × (c ≤ 126)

tested : (xs : List ℕ) → list_all is_printed xs ≡ true → All IsPrinted xs
tested [] e = All-nil IsPrinted
tested (c ∷ cs) e =
    let one : is_printed c ≡ true = left_true (is_printed c) (list_all is_printed cs) e in
    All-cons IsPrinted c cs (leb-true 33 c (left_true (nat_le 33 c) (nat_le c 126) one), leb-true c 126 (right_true (nat_le 33 c) (nat_le c 126) one))
    (tested cs (right_true (is_printed c) (list_all is_printed cs) e))

digits_printed : (ds : List ℕ) → AllDigits 10 ds → All IsPrinted ds
digits_printed [] h = All-nil IsPrinted
digits_printed (c ∷ cs) h = let r = digit_from_value c h.0 in All-cons IsPrinted c cs (omega (arith, r), omega (arith, r)) (digits_printed cs h.1)

-- a text and a number
numbered : (front : List ℕ) (i : ℕ) → 1 ≤ length front → length front ≤ 16 → list_all is_printed front ≡ true → i < 2 ^ 32 → IsName (front ++ decimal i)
numbered front i some few fine small =
    let long = length-append front (decimal i) in
    let digits : length (decimal i) ≤ 10 = length-decimal-le 10 i (lit≤ tt) (omega (arith, small)) (omega (arith, small)) in
    record {
      some = omega (arith, long, some);
      short = omega (arith, long, few, digits);
      printed = All-append IsPrinted front (decimal i) (tested front fine) (digits_printed (decimal i) (decimal_is_IsNumeral i (omega (arith, small))).0.1);
    }

symbol_named : (i : ℕ) → i < 2 ^ 32 → IsName (symbol_name i)
symbol_named i small = by_index (i == 0)
  where
    by_index : (b : Bool) → IsName (if b then codes "main" else codes "f" ++ decimal i)
    by_index true = record { some = lit≤ tt; short = lit≤ tt; printed = tested (codes "main") refl }
    by_index false = numbered (codes "f") i (lit≤ tt) (lit≤ tt) refl small

-- ---- sections

digits_length : (words : List ℕ) → length (flat_map be_digits words) ≡ WORD_SIZE * length words
digits_length [] = refl
digits_length (w ∷ ws) = let h = digits_length ws in omega (arith, h)

words_length : (lines : List Line) (bytes : List ℕ) → AreWords lines bytes → length bytes ≡ WORD_SIZE * length lines
words_length lines bytes h =
    let same : length h.words ≡ length lines = sym (length-map h.words decoded) ∙ ap length h.code ∙ length-map lines (λ x. Some (bare x)) in
    ap length h.digits ∙ digits_length h.words ∙ ap (λ n. WORD_SIZE * n) same

power : is_power_of_two QUAD_SIZE ≡ true
unfolding lib.Count.ones
power = refl

section_formed : (i : ℕ) (lines : List Line) (t : Section) → length lines ≤ MAX_LINES → IsSectionOf i lines t → IsWellFormedSection t
section_formed i lines t few h =
    let size = h.size in
    let align = h.align in
    record {
      power = ap is_power_of_two h.align ∙ power;
      width = omega (arith, align);
      small = omega (arith, size, few);
      filled = words_length lines t.bytes h.words ∙ sym size ∙ sym (ap (λ k. bytes_len k t.size) h.kind);
    }

-- ---- what lines name

-- a function that is there
abbrev IsNamed : ℕ → Line → Type 0
IsNamed n (Call g) = g < n
IsNamed n (Address g) = g < n
IsNamed n _ = Unit {0}

abbrev AreNamed : ℕ → List Line → Type 0
AreNamed n [] = Unit {0}
AreNamed n (x ∷ xs) = IsNamed n x × AreNamed n xs

named_append : (n : ℕ) (xs ys : List Line) → AreNamed n xs → AreNamed n ys → AreNamed n (xs ++ ys)
named_append n [] ys h g = g
named_append n (x ∷ xs) ys h g = (h.0, named_append n xs ys h.1 g)

named_nops : (n k : ℕ) → AreNamed n (replicate k Nop)
named_nops n zero = tt
named_nops n (suc k) = (tt, named_nops n k)

named_call : (count i : ℕ) → AreNamed (count + 1) (call_of count i)
named_call count i = by_test (nat_le i count) refl
  where
    by_test : (b : Bool) → nat_le i count ≡ b → AreNamed (count + 1) (if b then Call i ∷ [] else [])
    by_test true e = let le = leb-true i count e in (omega (arith, le), tt)
    by_test false e = tt

code_named : (count i x : ℕ) → 1 ≤ count → AreNamed (count + 1) (code_of count i x)
code_named count i x some = by_index (i == 0)
  where
    by_index : (b : Bool) → AreNamed (count + 1) (if b then main_code else sender_code count i x)
    by_index true = (tt, (tt, (tt, (omega (arith, some), (tt, (tt, (tt, (tt, tt))))))))
    by_index false =
        let nops = replicate (padding x) Nop in
        let front = enters ++ Load x ∷ Send ∷ nops in
        named_append (count + 1) (front ++ call_of count (2 * i) ++ call_of count (2 * i + 1)) leaves
        (named_append (count + 1) (front ++ call_of count (2 * i)) (call_of count (2 * i + 1))
        (named_append (count + 1) front (call_of count (2 * i)) (tt, (tt, (tt, (tt, (tt, named_nops (count + 1) (padding x)))))) (named_call count (2 * i)))
        (named_call count (2 * i + 1)))
        (tt, (tt, (tt, tt)))

-- ---- symbols and relocations

some_at : {A : Type 0} (xs : List A) (i : ℕ) → i < length xs → (x : A) × (slice_get xs i ≡ Some x)
some_at [] i lt = absurd (omega (arith, lt))
some_at (x ∷ xs) zero lt = (x, refl)
some_at (x ∷ xs) (suc i) lt = some_at xs i (omega (arith, lt))

symbol_formed : (sections : List Section) (i : ℕ) (lines : List Line) (t : Section) → i < 2 ^ 32 → slice_get sections i ≡ Some t → IsSectionOf i lines t
    → IsWellFormedSymbol sections (symbol_of i lines)
symbol_formed sections i lines t small there h =
    let name = symbol_named i small in
    let size = h.size in
    record { global_named = λ e. name; function_named = λ e. name; inside = λ k e. subst (EndsIn sections (symbol_of i lines)) (same_index i k e) (t, there, omega (arith, size)) }
  where
    same_index : (j k : ℕ) → places.Inside j ≡ places.Inside k → j ≡ k
    same_index j k e = cc

module _ (sections : List Section) (n i : ℕ) (t : Section) (there : slice_get sections i ≡ Some t) (code : t.kind ≡ kinds.Code) where
  filled : t.kind ≢ kinds.Zero
  filled e = let same : kinds.Code ≡ kinds.Zero = sym code ∙ e in cc

  relocation_formed : (offset : ℕ) (x : Line) → offset + WORD_SIZE ≤ t.size → IsNamed n x → All (IsWellFormedReloc sections n) (relocation_of i offset x)
  relocation_formed offset (Call g) inside named =
      All-cons (IsWellFormedReloc sections n) _ [] (record { target = (t, there, record { filled = filled; inside = inside }); known = named })
      (All-nil (IsWellFormedReloc sections n))
  relocation_formed offset (Address g) inside named =
      All-cons (IsWellFormedReloc sections n) _ [] (record { target = (t, there, record { filled = filled; inside = inside }); known = named })
      (All-nil (IsWellFormedReloc sections n))
  relocation_formed offset _ inside named = All-nil (IsWellFormedReloc sections n)

  relocations_formed : (offset : ℕ) (xs : List Line) → offset + WORD_SIZE * length xs ≤ t.size → AreNamed n xs → All (IsWellFormedReloc sections n) (relocations i offset xs)
  relocations_formed offset [] inside named = All-nil (IsWellFormedReloc sections n)
  relocations_formed offset (x ∷ xs) inside named =
      All-append (IsWellFormedReloc sections n) (relocation_of i offset x) (relocations i (offset + WORD_SIZE) xs)
      (relocation_formed offset x (omega (arith, inside)) named.0) (relocations_formed (offset + WORD_SIZE) xs (omega (arith, inside)) named.1)

-- ---- all of it

-- what holds for each number of a range
over_range : (P : ℕ → Type 0) (a n : ℕ) → ((i : ℕ) → a ≤ i → i < a + n → P i) → All P (range_with_len a n)
over_range P a zero h = All-nil P
over_range P a (suc n) h =
    All-cons P a (range_with_len (a + 1) n) (h a (omega arith) (omega arith)) (over_range P (a + 1) n (λ i least less. h i (omega (arith, least)) (omega (arith, less))))

all_flat : {A : Type 0} (P : A → Type 0) (f : ℕ → List A) (a n : ℕ) → ((i : ℕ) → a ≤ i → i < a + n → All P (f i)) → All P (flat_map f (range_with_len a n))
all_flat P f a zero h = All-nil P
all_flat P f a (suc n) h =
    All-append P (f a) (flat_map f (range_with_len (a + 1) n)) (h a (omega arith) (omega arith)) (all_flat P f (a + 1) n (λ i least less. h i (omega (arith, least)) (omega (arith, less))))

-- what holds of the element at each index
each_at : {A : Type 0} (P : A → Type 0) (xs : List A) → ((i : ℕ) (x : A) → slice_get xs i ≡ Some x → P x) → All P xs
each_at P [] h = All-nil P
each_at P (x ∷ xs) h = All-cons P x xs (h 0 x refl) (each_at P xs (λ i y e. h (suc i) y e))

pub workload_formed : (seed count : ℕ) (o : Object) → 1 ≤ count → count ≤ MAX_SENDERS → IsWorkload seed count o → IsWellFormed o
workload_formed seed count o some most h =
    let size = h.size in
    let symbols_size : length o.symbols ≡ count + 1 = ap length h.symbols ∙ length-map-range_with_len (λ i. symbol_of i (lines_of seed count i)) 0 (count + 1) in
    let is_section : (i : ℕ) → i < count + 1 → (t : Section) × (slice_get o.sections i ≡ Some t) × IsSectionOf i (lines_of seed count i) t =
    λ i lt. let there = some_at o.sections i (omega (arith, size, lt)) in (there.0, there.1, h.sections i there.0 there.1) in
    record {
      few_sections = omega (arith, size, most);
      few_symbols = omega (arith, symbols_size, most);
      sections = each_at IsWellFormedSection o.sections (λ i t e. section_formed i (lines_of seed count i) t (code_short count i (draw seed i)) (h.sections i t e));
      symbols =
          subst (All (IsWellFormedSymbol o.sections)) (sym h.symbols)
          (All-map (IsWellFormedSymbol o.sections) (λ i. symbol_of i (lines_of seed count i)) (range_with_len 0 (count + 1))
          (over_range (λ i. IsWellFormedSymbol o.sections (symbol_of i (lines_of seed count i))) 0 (count + 1) (λ i least less.
          let s = is_section i (omega (arith, less)) in symbol_formed o.sections i (lines_of seed count i) s.0 (omega (arith, less, most)) s.1 s.2)));
      relocs =
          subst (All (IsWellFormedReloc o.sections (length o.symbols))) (sym h.relocs)
          (subst (λ n. All (IsWellFormedReloc o.sections n) (flat_map (λ i. relocations i 0 (lines_of seed count i)) (range_with_len 0 (count + 1)))) (sym symbols_size)
          (all_flat (IsWellFormedReloc o.sections (count + 1)) (λ i. relocations i 0 (lines_of seed count i)) 0 (count + 1) (λ i least less.
          let s = is_section i (omega (arith, less)) in
          let long = s.2.size in
          relocations_formed o.sections (count + 1) i s.0 s.1 s.2.kind 0 (lines_of seed count i) (omega (arith, long)) (code_named count i (draw seed i) some))));
    }

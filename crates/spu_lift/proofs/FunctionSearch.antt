-- The search among functions: whether one is such can be decided, by the symbols of its object.
use Rattle.std.proofs.Common.{◌≡◌, ℕ, suc, ◌+◌, ◌*◌, ◌<◌, ◌≤◌, true, Some, List, length, ℤ, pos, negsuc, refl, sym, ap, subst, inl, inr, arith}
use Rattle.spu_word.specs.declared.limits.TheConstants.{WORD_SIZE}
use Rattle.spu_word.proofs.Places.{nat_equal}
use Rattle.std.proofs.lemmas.Option.{slice_get_within}
use Rattle.spu_elf.specs.declared.objects.SecKind.{SecKind}
use Rattle.spu_elf.specs.declared.objects.SecKind.TheVariants as kinds
use Rattle.spu_elf.specs.declared.objects.SymPlace.{SymPlace}
use Rattle.spu_elf.specs.declared.objects.SymPlace.TheVariants as places
use Rattle.spu_elf.specs.declared.objects.Section.{Section}
use Rattle.spu_elf.specs.declared.objects.Symbol.{Symbol}
use Rattle.spu_elf.specs.declared.objects.Object.{Object}
use Rattle.spu_lift.specs.Tables.{section_at, symbol_at, symbols_of}
use Rattle.spu_lift.specs.Extents.{Extent, Holds, IsExtent, IsFunctionSymbol, IsWordAt, is_function}
use Rattle.spu_lift.proofs.ExtentFacts.{covered, covering_so, object_of_symbol}
use Rattle.spu_lift.proofs.OneExtent.{extents_same}
use Rattle.spu_lift.proofs.Decisions.{Decided, IsBelow, IsSomeOf, decided_at_most, decided_below, decided_both, decided_by, decided_less, decided_some, decided_true}

-- what is asked of a function, its symbol and its section
abbrev pub Asked : Type 1
Asked = Extent → ℕ → Symbol → Section → Type 0

-- symbol j of object n is that of a function that is such
pub record IsFunctionBy (os : List Object) (asked : Asked) (n j : ℕ) : Type 0 where
  pub x : Extent
  pub symbol : Symbol
  pub section : Section
  pub function : IsFunctionSymbol os x j symbol section
  pub object : x.object ≡ n
  pub holds : asked x j symbol section

-- ---- a symbol

abbrev extent_by : ℕ → ℕ → Symbol → Extent
extent_by n k s = record { object = n; section = k; offset = s.value; size = s.size }

abbrev IsCodeBy : Asked → ℕ → ℕ → ℕ → Symbol → Section → Type 0
IsCodeBy asked n j k s t = (t.kind ≡ kinds.Code) × asked (extent_by n k s) j s t

abbrev IsSymbolIn : List Object → Asked → ℕ → ℕ → Symbol → ℕ → Type 0
IsSymbolIn os asked n j s k = ((is_function s.kind ≡ true) × (1 ≤ s.size)) × IsSomeOf (section_at os n k) (IsCodeBy asked n j k s)

abbrev IsInside : SymPlace → (ℕ → Type 0) → Type 0
IsInside place P = (k : ℕ) × (place ≡ places.Inside k) × P k

inside_same : (k m : ℕ) → places.Inside k ≡ places.Inside m → k ≡ m
inside_same k m e = cc

decided_inside : (place : SymPlace) (P : ℕ → Type 0) → ((k : ℕ) → Decided (P k)) → Decided (IsInside place P)
decided_inside places.Undefined P each = inr (λ h. let e : places.Undefined ≡ places.Inside h.0 = h.1 in cc)
decided_inside places.Absolute P each = inr (λ h. let e : places.Absolute ≡ places.Inside h.0 = h.1 in cc)
decided_inside (places.Inside m) P each = elim (each m) [
  | inl is ↦ inl (m, refl, is)
  | inr fails ↦ inr (λ h. fails (subst P (sym (inside_same m h.0 h.1)) h.2))
]

pub decided_code : (k : SecKind) → Decided (k ≡ kinds.Code)
decided_code kinds.Code = inl refl
decided_code kinds.Const = inr (λ e. cc)
decided_code kinds.Vars = inr (λ e. cc)
decided_code kinds.Zero = inr (λ e. cc)

pub decided_function : (os : List Object) (asked : Asked) → ((x : Extent) (j : ℕ) (s : Symbol) (t : Section) → Decided (asked x j s t)) → (n j : ℕ) → Decided (IsFunctionBy os asked n j)
decided_function os asked each n j =
    decided_by (IsSomeOf (symbol_at os n j) (λ s. IsInside s.place (IsSymbolIn os asked n j s))) (IsFunctionBy os asked n j) so back
    (decided_some (symbol_at os n j) (λ s. IsInside s.place (IsSymbolIn os asked n j s)) (λ s at. decided_inside s.place (IsSymbolIn os asked n j s) (λ k.
    decided_both ((is_function s.kind ≡ true) × (1 ≤ s.size)) (IsSomeOf (section_at os n k) (IsCodeBy asked n j k s))
    (decided_both (is_function s.kind ≡ true) (1 ≤ s.size) (decided_true (is_function s.kind)) (decided_at_most 1 s.size))
    (decided_some (section_at os n k) (IsCodeBy asked n j k s) (λ t there. decided_both (t.kind ≡ kinds.Code) (asked (extent_by n k s) j s t) (decided_code t.kind) (each (extent_by n k s) j s t))))))
  where
    so : IsSomeOf (symbol_at os n j) (λ s. IsInside s.place (IsSymbolIn os asked n j s)) → IsFunctionBy os asked n j
    so (s, at, (k, inside, (parts, (t, there, code)))) = record {
      x = extent_by n k s;
      symbol = s;
      section = t;
      function = record {
        symbol = at;
        covers = covering_so (extent_by n k s) s (record { function = parts.0; place = inside; value = refl; size = refl });
        some = parts.1;
        section = there;
        code = code.0;
      };
      object = refl;
      holds = code.1;
    }

    back : IsFunctionBy os asked n j → IsSomeOf (symbol_at os n j) (λ s. IsInside s.place (IsSymbolIn os asked n j s))
    back f =
        let says = covered f.x f.symbol f.function.covers in
        let same : f.x ≡ extent_by n f.x.section f.symbol = extents_same f.x (extent_by n f.x.section f.symbol) f.object refl (sym says.value) (sym says.size) in
        let size = says.size in
        let some = f.function.some in (
          f.symbol,
          subst (λ (m : ℕ). symbol_at os m j ≡ Some f.symbol) f.object f.function.symbol,
          (
            f.x.section,
            says.place,
            (
              (says.function, omega arith),
              (
                f.section,
                subst (λ (m : ℕ). section_at os m f.x.section ≡ Some f.section) f.object f.function.section,
                (f.function.code, subst (λ (x : Extent). asked x j f.symbol f.section) same f.holds),
              ),
            ),
          ),
        )

-- ---- the symbols of an object, and of all

pub record IsFunctionIn (os : List Object) (asked : Asked) (n : ℕ) : Type 0 where
  pub j : ℕ
  pub is : IsFunctionBy os asked n j

pub decided_in_object : (os : List Object) (asked : Asked) → ((x : Extent) (j : ℕ) (s : Symbol) (t : Section) → Decided (asked x j s t)) → (n : ℕ) → Decided (IsFunctionIn os asked n)
decided_in_object os asked each n =
    decided_by (IsBelow (length (symbols_of os n)) (IsFunctionBy os asked n)) (IsFunctionIn os asked n)
    (λ h. record { j = h.0; is = h.2 })
    (λ f. (f.j, slice_get_within (symbols_of os n) f.j f.is.symbol (subst (λ (m : ℕ). symbol_at os m f.j ≡ Some f.is.symbol) f.is.object f.is.function.symbol), f.is))
    (decided_below (IsFunctionBy os asked n) (decided_function os asked each n) (length (symbols_of os n)))

pub record IsFunctionAnywhere (os : List Object) (asked : Asked) : Type 0 where
  pub n : ℕ
  pub is : IsFunctionIn os asked n

pub decided_anywhere : (os : List Object) (asked : Asked) → ((x : Extent) (j : ℕ) (s : Symbol) (t : Section) → Decided (asked x j s t)) → Decided (IsFunctionAnywhere os asked)
decided_anywhere os asked each =
    decided_by (IsBelow (length os) (IsFunctionIn os asked)) (IsFunctionAnywhere os asked)
    (λ h. record { n = h.0; is = h.2 })
    (λ f.
    let object : f.is.is.x.object ≡ f.n = f.is.is.object in
    let within = (object_of_symbol os f.is.is.x.object f.is.j f.is.is.symbol f.is.is.function.symbol).1.within in
    (f.n, subst (λ (m : ℕ). m < length os) object within, f.is))
    (decided_below (IsFunctionIn os asked) (decided_in_object os asked each) (length os))

-- ---- extents

pub record IsExtentSuch (os : List Object) (P : Extent → Type 0) (n : ℕ) : Type 0 where
  pub x : Extent
  pub extent : IsExtent os x
  pub object : x.object ≡ n
  pub holds : P x

pub decided_extent : (os : List Object) (P : Extent → Type 0) → ((x : Extent) → Decided (P x)) → (n : ℕ) → Decided (IsExtentSuch os P n)
decided_extent os P each n =
    decided_by (IsFunctionIn os (λ x j s t. P x) n) (IsExtentSuch os P n)
    (λ f. record { x = f.is.x; extent = (f.j, f.is.symbol, f.is.section, f.is.function); object = f.is.object; holds = f.is.holds })
    (λ e. record { j = e.extent.0; is = record { x = e.x; symbol = e.extent.1; section = e.extent.2; function = e.extent.3; object = e.object; holds = e.holds } })
    (decided_in_object os (λ x j s t. P x) (λ x j s t. each x) n)

-- the extent holds an offset
pub decided_holds : (x : Extent) (n k offset : ℕ) → Decided (Holds x n k offset)
decided_holds x n k offset =
    decided_by (((x.object ≡ n) × (x.section ≡ k)) × ((x.offset ≤ offset) × (offset < x.offset + x.size))) (Holds x n k offset)
    (λ h. record { object = h.0.0; section = h.0.1; from = h.1.0; to = h.1.1 })
    (λ h. ((h.object, h.section), (h.from, h.to)))
    (decided_both ((x.object ≡ n) × (x.section ≡ k)) ((x.offset ≤ offset) × (offset < x.offset + x.size))
    (decided_both (x.object ≡ n) (x.section ≡ k) (nat_equal x.object n) (nat_equal x.section k))
    (decided_both (x.offset ≤ offset) (offset < x.offset + x.size) (decided_at_most x.offset offset) (decided_less offset (x.offset + x.size))))

-- ---- words of extents, at an offset

pub record IsWordSuch (os : List Object) (P : Extent → ℕ → Type 0) (n k : ℕ) (offset : ℤ) : Type 0 where
  pub x : Extent
  pub j : ℕ
  pub word : IsWordAt os x j n k offset
  pub holds : P x j

pub pos_same : (m n : ℕ) → pos m ≡ pos n → m ≡ n
pos_same m n e = cc

-- word j of the extent is at an offset of section k
abbrev pub IsHere : ℕ → ℕ → (Extent → ℕ → Type 0) → Extent → ℕ → Type 0
IsHere k offset P x j = ((offset ≡ x.offset + WORD_SIZE * j) × (WORD_SIZE * j < x.size)) × P x j

abbrev pub HasWordHere : ℕ → ℕ → (Extent → ℕ → Type 0) → Extent → Type 0
HasWordHere k offset P x = (x.section ≡ k) × IsBelow (suc offset) (IsHere k offset P x)

pub decided_word_here : (k offset : ℕ) (P : Extent → ℕ → Type 0) → ((x : Extent) (j : ℕ) → Decided (P x j)) → (x : Extent) → Decided (HasWordHere k offset P x)
decided_word_here k offset P each x =
    decided_both (x.section ≡ k) (IsBelow (suc offset) (IsHere k offset P x)) (nat_equal x.section k)
    (decided_below (IsHere k offset P x) (λ j.
    decided_both ((offset ≡ x.offset + WORD_SIZE * j) × (WORD_SIZE * j < x.size)) (P x j)
    (decided_both (offset ≡ x.offset + WORD_SIZE * j) (WORD_SIZE * j < x.size) (nat_equal offset (x.offset + WORD_SIZE * j)) (decided_less (WORD_SIZE * j) x.size))
    (each x j)) (suc offset))

pub decided_word : (os : List Object) (P : Extent → ℕ → Type 0) → ((x : Extent) (j : ℕ) → Decided (P x j)) → (n k : ℕ) (offset : ℤ) → Decided (IsWordSuch os P n k offset)
decided_word os P each n k (negsuc m) = inr (λ w. let e : negsuc m ≡ pos (w.x.offset + WORD_SIZE * w.j) = w.word.at in cc)
decided_word os P each n k (pos m) =
    decided_by (IsExtentSuch os (HasWordHere k m P) n) (IsWordSuch os P n k (pos m))
    (λ e. record {
      x = e.x;
      j = e.holds.1.0;
      word = record { extent = e.extent; object = e.object; section = e.holds.0; inside = e.holds.1.2.0.1; at = ap pos e.holds.1.2.0.0 };
      holds = e.holds.1.2.1;
    })
    (λ w.
    let here : m ≡ w.x.offset + WORD_SIZE * w.j = pos_same m (w.x.offset + WORD_SIZE * w.j) w.word.at in
    record { x = w.x; extent = w.word.extent; object = w.word.object; holds = (w.word.section, (w.j, omega (arith, here), ((here, w.word.inside), w.holds))) })
    (decided_extent os (HasWordHere k m P) (decided_word_here k m P each) n)

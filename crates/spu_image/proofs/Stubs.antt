-- Stubs, one after another.
use Rattle.std.proofs.Common.{◌≡◌, ℕ, suc, ◌+◌, ◌-◌, ◌≤◌, ◌<◌, List, [], ◌∷◌, ◌++◌, length, take, get_or, map, Some, sym, ap, ap₂, ◌∙◌, subst, arith, append_assoc}
use Rattle.std.proofs.Math.Seq.{take-length}
use Rattle.std.proofs.lemmas.List.{append-nil, length-take-le, map-append, take_more}
use Rattle.spu_isa.specs.declared.instruction.Inst.{Inst}
use Rattle.spu_isa.specs.Decoding.{decoded}
use Rattle.spu_lift.specs.declared.program.Function.{Function}
use Rattle.spu_layout.specs.Layouts.{Layout}
use Rattle.spu_loader.specs.Code.{stub_code}
use Rattle.spu_loader.specs.Forms.{AreWordsOf}
use Rattle.spu_image.specs.Images.{bytes_of_words}
use Rattle.spu_image.specs.Overlays.{stub_codes}
use Rattle.spu_image.specs.OverlayFilling.{Adds}
use Rattle.spu_image.proofs.Made.{words_append}

-- words behind words
pub joined : (xs ys : List Inst) (us vs : List ℕ) → AreWordsOf xs us → AreWordsOf ys vs → AreWordsOf (xs ++ ys) (us ++ vs)
joined xs ys us vs a b = map-append decoded us vs ∙ (ap₂ (λ p q. p ++ q) a b ∙ sym (map-append Some xs ys))

pub adds_nothing : (code : List Inst) (old : List ℕ) → code ≡ [] → Adds code old old
adds_nothing code old is = record { words = []; are = ap (map Some) (sym is); is = sym (append-nil old) }

pub adds_more : (code more : List Inst) (old now new words : List ℕ) → Adds code old now → AreWordsOf more words → new ≡ now ++ bytes_of_words words → Adds (code ++ more) old new
adds_more code more old now new words adds are is = record {
  words = adds.words ++ words;
  are = joined code more adds.words words adds.are are;
  is = is ∙ (ap (λ bs. bs ++ bytes_of_words words) adds.is ∙ (append_assoc old (bytes_of_words adds.words) (bytes_of_words words) ∙ ap (λ bs. old ++ bs) (sym (words_append adds.words words))));
}

abbrev stub_of : ℕ → Layout → ℕ → List Inst
stub_of base l f = stub_code base (l.entry f) (l.region f) (l.at f 0)

codes_more : (base : ℕ) (l : Layout) (k : ℕ) (gs : List Function) (g : Function) → stub_codes base l k (gs ++ g ∷ []) ≡ stub_codes base l k gs ++ stub_of base l (k + length gs)
codes_more base l k [] g =
    let e : k ≡ k + 0 = omega arith in
    append-nil (stub_of base l k) ∙ ap (stub_of base l) e
codes_more base l k (x ∷ xs) g =
    let e : suc k + length xs ≡ k + suc (length xs) = omega arith in
    ap (λ cs. stub_of base l k ++ cs) (codes_more base l (suc k) xs g ∙ ap (λ n. stub_codes base l (suc k) xs ++ stub_of base l n) e)
    ∙ sym (append_assoc (stub_of base l k) (stub_codes base l (suc k) xs) (stub_of base l (k + suc (length xs))))

-- of the functions behind the first, the first n
pub stubs_more : (base : ℕ) (l : Layout) (others : List Function) (g : Function) (f : ℕ) → 1 ≤ f → f - 1 < length others → stub_codes base l 1 (take (f + 1 - 1) others) ≡ stub_codes base l 1 (take (f - 1) others) ++ stub_of base l f
stubs_more base l others g f some lt =
    let n : f + 1 - 1 ≡ f - 1 + 1 = omega arith in
    let m : 1 + length (take (f - 1) others) ≡ f = (let t = length-take-le (f - 1) others (omega arith) in omega (arith, t)) in
    ap (λ k. stub_codes base l 1 (take k others)) n
    ∙ (ap (stub_codes base l 1) (take_more others (f - 1) g lt)
    ∙ (codes_more base l 1 (take (f - 1) others) (get_or others (f - 1) g) ∙ ap (λ k. stub_codes base l 1 (take (f - 1) others) ++ stub_of base l k) m))

pub stub_added : (base : ℕ) (l : Layout) (others : List Function) (g : Function) (f : ℕ) → 1 ≤ f → f - 1 < length others → (old now new words : List ℕ) → Adds (stub_codes base l 1 (take (f - 1) others)) old now → AreWordsOf (stub_of base l f) words
    → new ≡ now ++ bytes_of_words words → Adds (stub_codes base l 1 (take (f + 1 - 1) others)) old new
stub_added base l others g f some lt old now new words adds are is =
    subst (λ code. Adds code old new) (sym (stubs_more base l others g f some lt)) (adds_more (stub_codes base l 1 (take (f - 1) others)) (stub_of base l f) old now new words adds are is)

pub stubs_whole : (base : ℕ) (l : Layout) (others : List Function) (n : ℕ) (old now : List ℕ) → n ≡ length others → Adds (stub_codes base l 1 (take n others)) old now → Adds (stub_codes base l 1 others) old now
stubs_whole base l others n old now e adds = subst (λ fs. Adds (stub_codes base l 1 fs) old now) (ap (λ k. take k others) e ∙ take-length others) adds

pub stub_is : (base at region target entry own place : ℕ) (words : List ℕ) → at ≡ entry → region ≡ own → target ≡ place → AreWordsOf (stub_code base at region target) words → AreWordsOf (stub_code base entry own place) words
stub_is base at region target entry own place words a b c are =
    subst (λ n. AreWordsOf (stub_code base entry own n) words) c (subst (λ n. AreWordsOf (stub_code base entry n target) words) b (subst (λ n. AreWordsOf (stub_code base n region target) words) a are))

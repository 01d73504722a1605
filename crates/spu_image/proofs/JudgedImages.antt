-- The flat image of a judged program, as the code makes it.
use Rattle.std.proofs.Common.{◌≡◌, ℕ, suc, ◌+◌, ◌-◌, ◌*◌, ◌^◌, ◌<◌, ◌≤◌, Bool, true, false, not, List, [], ◌∷◌, ◌++◌, length, drop, map, Option, Some, None, refl, sym, ap, ◌∙◌, inl, subst, arith}
use Rattle.std.specs.Prelude.{nat_le}
use Rattle.std.specs.List.{All}
use Rattle.std.proofs.lemmas.Bool.{cond_both}
use Rattle.std.proofs.lemmas.List.{length-append, length-drop, length-map}
use Rattle.spu_word.specs.declared.limits.TheConstants.{DATA_START, MAX_FILE_SIZE, MAX_NAME_SIZE, MAX_OBJECTS, MAX_STACK_LIMIT, MAX_SYMBOLS, STACK_TOP}
use Rattle.spu_elf.specs.declared.objects.Symbol.{Symbol}
use Rattle.spu_elf.specs.declared.executables.Exec.{Exec}
use Rattle.spu_elf.specs.Spelling.{spell_exec}
use Rattle.spu_elf.specs.Validity.{IsValidExec}
use Rattle.spu_lift.specs.declared.program.Function.{Function}
use Rattle.spu_lift.specs.declared.program.Global_.{Global_}
use Rattle.spu_lift.specs.declared.program.Prog.{Prog}
use Rattle.spu_lift.specs.WellFormed.{IsWellFormed}
use Rattle.spu_frame.specs.Found.{frame_at}
use Rattle.spu_graph.specs.Known.{need_of}
use Rattle.spu_judge.specs.declared.outcome.Judged.{Judged}
use Rattle.spu_judge.specs.Answers.{IsJudgement}
use Rattle.spu_plan.specs.declared.plan.Plan.{Plan}
use Rattle.spu_layout.specs.declared.layout.Layout as held
use Rattle.spu_layout.specs.Layouts.{Layout}
use Rattle.spu_layout.specs.Placing.{FitsFlat, layout_of}
use Rattle.spu_layout.specs.Views.{function_count, layout_in}
use Rattle.spu_layout.proofs.Flats.{planned}
use Rattle.spu_image.specs.Images.{IsFlatExec, function_symbol, function_symbols, data_symbol, stack_name, stack_symbol, stack_symbol_by, stack_symbols}
use Rattle.spu_image.specs.Filling.{HasOneSegment, IsLaidOut, told_in}
use Rattle.spu_image.specs.JudgedLinking.{IsFileTooLarge, IsImage, IsImageRefused, IsPlanRefused, told_of}
use Rattle.spu_image.specs.declared.outcome.LinkFault.{LinkFault}
use Rattle.spu_image.specs.declared.outcome.LinkFault.TheVariants as faults
use Rattle.spu_image.proofs.FlatImages.{flat_headline}
use Rattle.spu_image.proofs.FlatFiles.{flat_valid, names_short, segment_quads}
use Rattle.spu_image.proofs.NeedBounds.{told_small}
use Rattle.spu_image.proofs.Roots.{segment_ends}

-- ---- needs that are told

told_below : (is_told : Bool) (needs : ℕ → Option ℕ) → ((f v : ℕ) → needs f ≡ Some v → v < 2 ^ 32) → (f v : ℕ) → told_of is_told needs f ≡ Some v → v < 2 ^ 32
told_below true needs small f v e = small f v e
told_below false needs small f v e = cc

-- what is told alike makes the same symbols
stacks_agree : (told other : ℕ → Option ℕ) (f : ℕ) (gs : List Function) → ((k : ℕ) → k < length gs → told (f + k) ≡ other (f + k)) → stack_symbols told f gs ≡ stack_symbols other f gs
stacks_agree told other f [] h = refl
stacks_agree told other f (g ∷ gs) h =
    let n : f + 0 ≡ f = omega arith in
    let first : told f ≡ other f = ap told (sym n) ∙ h 0 (omega arith) ∙ ap other n in
    ap (λ o. stack_symbol_by (stack_name f g) o ++ stack_symbols told (suc f) gs) first
    ∙ ap (λ ss. stack_symbol_by (stack_name f g) (other f) ++ ss) (stacks_agree told other (suc f) gs (λ k lt. (let e : suc f + k ≡ f + suc k = omega arith in ap told e ∙ h (suc k) (omega arith) ∙ ap other (sym e))))

pub told_alike : (p : Prog) (l : Layout) (limit : ℕ) (told other : ℕ → Option ℕ) → ((f : ℕ) → f < length p.functions → told f ≡ other f) → (x : Exec) → IsFlatExec p l limit told x → IsFlatExec p l limit other x
told_alike p l limit told other h x is = record {
  entry = is.entry;
  bytes = is.bytes;
  segments = is.segments;
  holds = is.holds;
  symbols = is.symbols ∙ ap (λ ss. function_symbols l (λ (g : Function). not g.global) 1 (drop 1 p.functions) ++ ss
      ++ function_symbols l (λ (g : Function). g.global) 1 (drop 1 p.functions) ++ map (λ (g : Global_). data_symbol p g) p.globals)
      (stacks_agree told other 1 (drop 1 p.functions) (λ k lt. h (1 + k) (let n = length-drop 1 p.functions in omega (arith, n, lt))));
}

-- ---- how many symbols there are

few_functions : (l : Layout) (test : Function → Bool) (f : ℕ) (gs : List Function) → length (function_symbols l test f gs) ≤ length gs
few_functions l test f [] = omega arith
few_functions l test f (g ∷ gs) =
    let rest = few_functions l test (suc f) gs in
    cond_both (test g) (function_symbol l f g ∷ function_symbols l test (suc f) gs) (function_symbols l test (suc f) gs) (λ (ss : List Symbol). length ss ≤ suc (length gs)) (λ t. omega (arith, rest)) (λ t. omega (arith, rest))

few_stacks : (told : ℕ → Option ℕ) (f : ℕ) (gs : List Function) → length (stack_symbols told f gs) ≤ length gs
few_stacks told f [] = omega arith
few_stacks told f (g ∷ gs) =
    let rest = few_stacks told (suc f) gs in
    let n = length-append (stack_symbol_by (stack_name f g) (told f)) (stack_symbols told (suc f) gs) in
    let first = at_most (stack_name f g) (told f) in
    omega (arith, rest, n, first)
  where
    at_most : (name : List ℕ) (o : Option ℕ) → length (stack_symbol_by name o) ≤ 1
    at_most name None = omega arith
    at_most name (Some v) = cond_both (nat_le (length name) MAX_NAME_SIZE) (stack_symbol name v ∷ []) [] (λ (ss : List Symbol). length ss ≤ 1) (λ t. omega arith) (λ t. omega arith)

pub few_symbols : (p : Prog) → IsWellFormed p → length p.globals ≤ MAX_OBJECTS * MAX_SYMBOLS → (l : Layout) (limit : ℕ) (told : ℕ → Option ℕ) (x : Exec) → IsFlatExec p l limit told x → length x.symbols ≤ 2 ^ 26
few_symbols p well few l limit told x is =
    let gs : List Function = drop 1 p.functions in
    let locals : List Symbol = function_symbols l (λ (g : Function). not g.global) 1 gs in
    let stacks : List Symbol = stack_symbols told 1 gs in
    let globals : List Symbol = function_symbols l (λ (g : Function). g.global) 1 gs in
    let datas : List Symbol = map (λ (g : Global_). data_symbol p g) p.globals in
    let e = ap (λ (ss : List Symbol). length ss) is.symbols in
    let a = length-append ((locals ++ stacks) ++ globals) datas in
    let b = length-append (locals ++ stacks) globals in
    let c = length-append locals stacks in
    let d = length-map p.globals (λ (g : Global_). data_symbol p g) in
    let m = length-drop 1 p.functions in
    let n = well.functions in
    let u = few_functions l (λ (g : Function). not g.global) 1 gs in
    let v = few_stacks told 1 gs in
    let w = few_functions l (λ (g : Function). g.global) 1 gs in
    omega (arith, e, a, b, c, d, m, n, u, v, w, few)

-- ---- an image

module _ (j : Judged) (limit : ℕ) (judged : IsJudgement j.prog limit j) (low : limit ≤ MAX_STACK_LIMIT) (plan : Plan) (fits : FitsFlat j.prog plan limit) (layout : held.Layout) (is : layout_in layout ≡ layout_of j.prog plan limit)
    (count : function_count layout ≡ length j.prog.functions) where
  abbrev p : Prog
  p = j.prog

  well : IsWellFormed p
  well = judged.judged.formed

  pub laid_out : IsLaidOut p layout
  laid_out = record { plan = plan; limit = limit; well = well; fits = inl fits; is = is; functions = count }

  module _ (is_told : Bool) (told : List (Option ℕ)) (given : (f : ℕ) → f < length p.functions → told_in told f ≡ told_of is_told (need_of j.needs) f) (x : Exec) (made : IsFlatExec p (layout_in layout) limit (told_in told) x) where
    abbrev needs : ℕ → Option ℕ
    needs = told_of is_told (need_of j.needs)

    image : IsFlatExec p (layout_of p plan limit) limit needs x
    image = told_alike p (layout_of p plan limit) limit (told_in told) needs given x (subst (λ l. IsFlatExec p l limit (told_in told) x) is made)

    small : (f v : ℕ) → needs f ≡ Some v → v < 2 ^ 32
    small = told_below is_told (need_of j.needs) (told_small p limit j judged low)

    image_planned : IsFlatExec p (layout_of p (planned p) limit) limit needs x
    image_planned = subst (λ q. IsFlatExec p (layout_of p q limit) limit needs x) fits.planned image

    below : (planned p).end ≤ STACK_TOP - limit
    below = subst (λ (q : Plan). q.end ≤ STACK_TOP - limit) fits.planned fits.below

    pub one_segment : HasOneSegment x
    one_segment =
        let ends = segment_ends p well limit image_planned.bytes image_planned.holds in
        let b = below in
        record {
          segment = record { address = DATA_START; overlay = false; bytes = image_planned.bytes };
          only = image_planned.segments;
          quads = (segment_quads p well limit below (length image_planned.bytes) ends).1;
          small = omega (arith, ends, b);
        }

    pub few : length p.globals ≤ MAX_OBJECTS * MAX_SYMBOLS → length x.symbols ≤ 2 ^ 26
    few h = few_symbols p well h (layout_of p plan limit) limit needs x image

    pub short : All (λ (s : Symbol). length s.name ≤ MAX_NAME_SIZE) x.symbols
    short = subst (All (λ (s : Symbol). length s.name ≤ MAX_NAME_SIZE)) (sym image_planned.symbols) (names_short p well limit below needs small)

    pub valid : length (spell_exec x) ≤ MAX_FILE_SIZE → IsValidExec x
    valid h = flat_valid p well plan limit fits needs small x image h

    pub too_large : (size : ℕ) → size ≡ length (spell_exec x) → MAX_FILE_SIZE < size → IsFileTooLarge p limit needs size
    too_large size e over = record { plan = plan; fits = fits; exec = x; image = image; is = e; over = over }

    pub linked : (file : List ℕ) → file ≡ spell_exec x → IsValidExec x
        → IsImage limit is_told (record { exec = x; file = file; prog = p; depths = j.depths; needs = j.needs; plan = plan; layout = layout })
    linked file e v = record {
      fits = fits;
      layout = is;
      functions = count;
      image = image;
      valid = v;
      file = e;
      need = judged.need;
      entry = judged.entry;
      headline = flat_headline p (frame_at j.depths) judged.need judged.judged plan limit judged.least fits needs x file image;
    }

-- ---- refusals

pub plan_refused : (j : Judged) (limit : ℕ) (is_told : Bool) (e : LinkFault) → IsPlanRefused j.prog limit e → IsImageRefused j limit is_told e
plan_refused j limit is_told (faults.TooLarge least room) h = h
plan_refused j limit is_told faults.OutOfMemory h = tt
plan_refused j limit is_told (faults.Lift fault) h = absurd h
plan_refused j limit is_told (faults.Frame kind name offset) h = absurd h
plan_refused j limit is_told (faults.Recursion names) h = absurd h
plan_refused j limit is_told (faults.StackLimit need told) h = absurd h
plan_refused j limit is_told (faults.FileTooLarge size) h = absurd h

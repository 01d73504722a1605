-- What a run is given is admitted.
use Rattle.std.proofs.Common.{◌≡◌, ℕ, zero, suc, ◌+◌, ◌≤◌, List, [], ◌∷◌, ◌++◌, length, drop, Option, Some, None, refl, sym, ap, subst, ◌∙◌, arith, drop-cons, add-one, get_or, ◌<◌, append_assoc}
use Rattle.std.specs.Prelude.{slice_get}
use Rattle.spu_word.specs.declared.load.Area.{Area}
use Rattle.spu_word.specs.declared.load.Inputs.{Inputs}
use Rattle.spu_ls.specs.Loading.{AreDistinct, IsAdmitted}
use Rattle.spu_tool.specs.declared.areas.AreaPlace.{AreaPlace}
use Rattle.spu_tool.specs.declared.options.RunOptions.{RunOptions}
use Rattle.spu_tool.specs.Areas.{ArePlaced, areas_of}
use Rattle.spu_tool.specs.Options.{AreSound}
use Rattle.std.proofs.Common.{◌≢◌, ◌⊎◌, Result, Ok, Err, IfOk, inl, inr}
use Rattle.spu_word.specs.declared.load.LoadFault.{LoadFault}
use Rattle.spu_word.specs.declared.load.LoadFault.TheVariants as loads
use Rattle.spu_word.specs.declared.sequence.OutOfMemory.{OutOfMemory}
use Rattle.spu_elf.specs.declared.executables.Exec.{Exec}
use Rattle.spu_ls.specs.Ends.{end_of}
use Rattle.spu_ls.specs.Loading.{load_fault}
use Rattle.spu_ls.specs.Machine.{State, steps}
use Rattle.spu_ls.specs.Start.{start}
use Rattle.spu_ls.specs.declared.ending.RunEnd.{RunEnd}
use Rattle.spu_tool.specs.declared.made.Made.{Made}
use Rattle.spu_tool.specs.FaultLines.{load_line}
use Rattle.spu_elf.specs.Executables.{exec_fault}
use Rattle.spu_elf.specs.Spelling.{spell_exec}
use Rattle.spu_elf.specs.Validity.{IsValidExec}
use Rattle.spu_tool.specs.Makes.{LoadsNot, MakesRun, inputs_of, made, refused, run_text, RunsOrNot, status_of}

-- each area has the name of its place
named : (places : List AreaPlace) (files : List (List ℕ)) (i : ℕ) (a : Area) → slice_get (areas_of places files) i ≡ Some a → (p : AreaPlace) × (slice_get places i ≡ Some p) × (p.name ≡ a.name)
named [] files i a e = absurd (cc)
named (p ∷ places) [] i a e = absurd (cc)
named (p ∷ places) (bytes ∷ files) zero a e = let same : record { name = p.name; ea = p.ea; bytes = bytes } ≡ a = cc in (p, refl, ap (λ (x : Area). x.name) same)
named (p ∷ places) (bytes ∷ files) (suc i) a e = named places files i a e

no_more : (places : List AreaPlace) (files : List (List ℕ)) → length (areas_of places files) ≤ length places
no_more [] files = omega arith
no_more (p ∷ places) [] = omega arith
no_more (p ∷ places) (bytes ∷ files) = let h = no_more places files in omega arith

distinct : (places : List AreaPlace) (files : List (List ℕ)) → ArePlaced places → AreDistinct (areas_of places files)
distinct places files placed i j a b p q same =
    let x = named places files i a p in
    let y = named places files j b q in
    placed i j x.0 y.0 x.1 y.1 (x.2 ∙ same ∙ sym y.2)

pub admitted_is : (options : RunOptions) (files : List (List ℕ)) → AreSound options → IsAdmitted (inputs_of options files)
admitted_is options files h =
    let few = h.few in
    let near = h.near in
    let areas = no_more options.places files in
    record {
      aligned = h.aligned;
      near = omega arith;
      few = omega arith;
      distinct = distinct options.places files h.placed;
      mail = h.mail;
    }

pub admitted : (options : RunOptions) (files : List (List ℕ)) (i : Inputs) → AreSound options → i ≡ inputs_of options files → IsAdmitted i
admitted options files i h e = subst IsAdmitted (sym e) (admitted_is options files h)

-- one area more of those that are left
pub areas_more : (places : List AreaPlace) (files : List (List ℕ)) (k : ℕ) (p : AreaPlace) (bytes : List ℕ) (done : List Area) (a : Area)
    → k < length places → k < length files → p ≡ get_or places k p → bytes ≡ get_or files k bytes → a ≡ record { name = p.name; ea = p.ea; bytes = bytes }
    → (done ++ a ∷ []) ++ areas_of (drop (k + 1) places) (drop (k + 1) files) ≡ done ++ areas_of (drop k places) (drop k files)
areas_more places files k p bytes done a lt less is same e =
    let place : drop k places ≡ p ∷ drop (suc k) places = drop-cons places k p lt ∙ ap (λ (x : AreaPlace). x ∷ drop (suc k) places) (sym is) in
    let file : drop k files ≡ bytes ∷ drop (suc k) files = drop-cons files k bytes less ∙ ap (λ (x : List ℕ). x ∷ drop (suc k) files) (sym same) in
    append_assoc done (a ∷ []) (areas_of (drop (k + 1) places) (drop (k + 1) files))
    ∙ ap (λ (n : ℕ). done ++ a ∷ areas_of (drop n places) (drop n files)) (add-one k)
    ∙ ap (λ (x : Area). done ++ x ∷ areas_of (drop (suc k) places) (drop (suc k) files)) e
    ∙ sym (ap (λ (ps : List AreaPlace). done ++ areas_of ps (drop k files)) place ∙ ap (λ (fs : List (List ℕ)). done ++ areas_of (p ∷ drop (suc k) places) fs) file)

-- an executable that is loaded is run, and one that isn't is refused
pub runs_if : (x : Exec) (bytes : List ℕ) (i : Inputs) (budget : ℕ) (s t : State) (end : RunEnd) (a : Result Made OutOfMemory)
    → load_fault x bytes i ≡ None → s ≡ start x bytes i → t ≡ steps budget s → end ≡ end_of t.ended
    → IfOk a (λ m. m ≡ made (status_of end) None (run_text t)) → IfOk a (RunsOrNot x bytes i budget)
runs_if x bytes i budget s t end (Err e) none es et ee h = tt
runs_if x bytes i budget s t end (Ok m) none es et ee h =
    inl (record {
      fits = none;
      is = subst (λ u. m ≡ made (status_of (end_of u.ended)) None (run_text u)) (subst (λ v. t ≡ steps budget v) es et) (subst (λ f. m ≡ made (status_of f) None (run_text t)) ee h);
    })

pub refused_if : (P : Made → Type 0) (found : Option LoadFault) (fault : LoadFault) (a : Result Made OutOfMemory)
    → (fault ≡ loads.OutOfMemory) ⊎ (found ≡ Some fault) → IfOk a (λ m. m ≡ refused (load_line fault)) → IfOk a (λ m. fault ≢ loads.OutOfMemory)
    → IfOk a (λ m. P m ⊎ LoadsNot found m)
refused_if P found fault (Err e) h line told = tt
refused_if P found fault (Ok m) (inl memory) line told = absurd (told memory)
refused_if P found fault (Ok m) (inr is) line told = inr (record { fault = fault; first = is; is = line })

-- the executable that is run is the one that the bytes spell
pub ran_if : (options : RunOptions) (name bytes : List ℕ) (files : List (List ℕ)) (x : Exec) (i : Inputs) (a : Result Made OutOfMemory)
    → exec_fault bytes ≡ None → IsValidExec x × (spell_exec x ≡ bytes) → i ≡ inputs_of options files → IfOk a (RunsOrNot x bytes i options.steps)
    → IfOk a (MakesRun options name bytes files)
ran_if options name bytes files x i (Err e) read is given h = tt
ran_if options name bytes files x i (Ok m) read is given h =
    inl (record { read = read; exec = x; valid = is.0; spelled = is.1; made = subst (λ j. RunsOrNot x bytes j options.steps m) given h })

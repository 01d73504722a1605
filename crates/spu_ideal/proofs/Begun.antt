-- The start of a program is made of its parts, and is a state of the program and its depths; what lies in the data lies in the store.
use Rattle.std.proofs.Common.{◌≡◌, ℕ, zero, suc, ◌+◌, ◌≤◌, List, [], ◌∷◌, length, drop, Option, Some, None, refl, sym, ap, subst, ◌∙◌, arith}
use Rattle.std.specs.Prelude.{◌==◌, ◌-◌, ◌%◌, if◌then◌else◌, map, reverse}
use Rattle.std.specs.List.{Contains}
use Rattle.spu_word.specs.Bytes.{quad_of}
use Rattle.spu_word.specs.declared.limits.TheConstants.{MAX_STACK_LIMIT, QUAD_SIZE, STACK_TOP, STORE_SIZE, WORD_SIZE}
use Rattle.spu_word.specs.declared.load.Area.{Area}
use Rattle.spu_word.specs.declared.load.Inputs.{Inputs}
use Rattle.spu_exec.specs.declared.transfers.Transfer.{Transfer}
use Rattle.spu_lift.specs.declared.program.Part as section
use Rattle.spu_lift.specs.declared.program.Ear.{Ear}
use Rattle.spu_lift.specs.declared.program.Prog.{Prog}
use Rattle.spu_lift.specs.declared.program.WordLabel.{WordLabel}
use Rattle.spu_lift.specs.Places.{stack_pointer}
use Rattle.spu_lift.specs.WellFormed.{AreInOrder, IsEar}
use Rattle.spu_lift.specs.declared.symbolic.SymByte.{SymByte}
use Rattle.spu_lift.specs.declared.symbolic.SymByte.TheVariants.{Num}
use Rattle.spu_frame.specs.declared.depths.Depths.{Depths}
use Rattle.spu_judge.specs.declared.outcome.Judged.{Judged}
use Rattle.spu_judge.specs.Answers.{IsJudgement}
use Rattle.spu_ideal.specs.Bytes.{numbers, sixteen}
use Rattle.spu_ideal.specs.declared.ideal.Ideal.{Ideal}
use Rattle.spu_ideal.specs.declared.state.OpenCall.{OpenCall}
use Rattle.spu_ideal.specs.declared.state.Update.TheVariants.{NoUpdate}
use Rattle.spu_ideal.specs.State.{Sym}
use Rattle.spu_ideal.specs.States.{IsOf}
use Rattle.spu_ideal.specs.Machine.{data_byte, entry_of, start, with_entries}
use Rattle.spu_ideal.specs.Promises.{AreWaiting}
use Rattle.spu_ideal.specs.View.{IsStateOf, state_of}
use Rattle.spu_ideal.specs.Loading.{IsLoadable}
use Rattle.spu_ideal.proofs.Runs.{start_of_formed}

-- ---- where the data lies

-- each section of data ends where the data do, or before
abbrev AreWithin : List section.Part → ℕ → Type 0
AreWithin xs end = (x : section.Part) → Contains xs x → x.address + x.size ≤ end

within_more : (y : section.Part) (ys : List section.Part) (end : ℕ) → y.address + y.size ≤ end → AreWithin ys end → AreWithin (y ∷ ys) end
within_more y ys end first rest x (zero, lt, e) = subst (λ (x : section.Part). x.address + x.size ≤ end) e first
within_more y ys end first rest x (suc k, lt, e) = rest x (k, omega (arith, lt), e)

within : (from : ℕ) (xs : List section.Part) (end : ℕ) → AreInOrder from xs end → (from ≤ end) × AreWithin xs end
within from [] end h = (h, λ x c. absurd (let lt = c.1 in omega (arith, lt)))
within from (y ∷ ys) end h =
    let rest = within (y.address + y.size) ys end h.1 in
    let low = h.0 in
    let high = rest.0 in
    (omega (arith, low, high), within_more y ys end rest.0 rest.1)

module _ (p : Prog) (d : Depths) (limit : ℕ) (l : IsLoadable p d limit) where
  pub parts_inside : (xs : List section.Part) → xs ≡ p.parts → (x : section.Part) → Contains xs x → x.address + x.size ≤ STORE_SIZE
  parts_inside xs e x c =
      let far = (within _ p.parts p.data_end l.formed.ordered).1 x (subst (λ (ys : List section.Part). Contains ys x) e c) in
      let apart = l.apart in
      omega (arith, far, apart)

  pub labels_inside : (xs : List section.Part) → xs ≡ p.parts → (x : section.Part) → Contains xs x → (w : WordLabel) → Contains x.labels w → w.offset + WORD_SIZE ≤ x.size
  labels_inside xs e x c = (l.formed.parts x (subst (λ (ys : List section.Part). Contains ys x) e c)).inside

  pub ears_inside : (xs : List Ear) → xs ≡ p.ears → (e : Ear) → Contains xs e → e.address + QUAD_SIZE ≤ STORE_SIZE
  ears_inside xs same e c =
      let is : IsEar p e = l.formed.ears e (subst (λ (ys : List Ear). Contains ys e) same c) in
      let far = parts_inside p.parts refl is.part is.there in
      let to = is.to in
      omega (arith, far, to)

  -- ---- the state

  begins_waiting : (inputs : Inputs) → AreWaiting p l.need (start p limit inputs).areas (start p limit inputs).queue
  unfolding start
  begins_waiting inputs = record { safe = tt; few = omega arith; untagged = refl }

  pub start_of_both : (inputs : Inputs) (m : Ideal) → state_of m ≡ start p limit inputs → m.most_calls ≡ length p.functions + 1 → IsStateOf p d m
  start_of_both inputs m e room = record {
    formed = l.formed;
    depths = l.depths;
    count = l.count;
    need = l.need;
    heaviest = l.heaviest;
    acyclic = l.acyclic;
    most = (let a = l.least in let b = l.most in omega (arith, a, b));
    apart = (let a = l.least in let b = l.apart in omega (arith, a, b));
    state = subst (IsOf p) (sym e) (start_of_formed p limit inputs l.formed);
    waiting = subst (λ (s : Sym). AreWaiting p l.need s.areas s.queue) (sym e) (begins_waiting inputs);
    room = omega (arith, room);
  }

pub no_steps : (p : Prog) (limit : ℕ) (inputs : Inputs) (s : Sym) → s ≡ start p limit inputs → s.steps ≡ 0
unfolding start
no_steps p limit inputs s e = ap (λ (t : Sym). t.steps) e

pub store_is : (p : Prog) (inputs : Inputs) (m : ℕ → SymByte) (ears : List Ear) (areas : List Area) (parts : List section.Part)
    → m ≡ with_entries (map entry_of ears) areas (data_byte parts) → ears ≡ p.ears → areas ≡ inputs.areas → parts ≡ p.parts → m ≡ with_entries (map entry_of p.ears) inputs.areas (data_byte p.parts)
store_is p inputs m ears areas parts is a b c =
    is ∙ ap (λ (es : List Ear). with_entries (map entry_of es) areas (data_byte parts)) a
    ∙ ap (λ (list : List Area). with_entries (map entry_of p.ears) list (data_byte parts)) b
    ∙ ap (λ (ps : List section.Part). with_entries (map entry_of p.ears) inputs.areas (data_byte ps)) c

-- what registers, store and channels hold at the start
abbrev start_regs : ℕ → ℕ → List SymByte
start_regs limit = λ r. if r == stack_pointer then numbers (quad_of STACK_TOP limit 0 0) else sixteen (λ k. Num 0)

abbrev start_store : Prog → Inputs → ℕ → SymByte
start_store p inputs = with_entries (map entry_of p.ears) inputs.areas (data_byte p.parts)

abbrev start_words : ℕ → Option ℕ
start_words = λ n. Some 0

-- a start with these parts
abbrev made : (ℕ → List SymByte) → (ℕ → SymByte) → List OpenCall → (ℕ → Option ℕ) → List Transfer → List Area → List ℕ → List ℕ → Sym
made regs store calls channels queue areas mail output = record {
  f = 0;
  i = 1;
  regs = regs;
  store = store;
  calls = reverse calls;
  channels = channels;
  mask = 0;
  update = NoUpdate;
  queue = queue;
  areas = areas;
  mail = drop 0 mail;
  output = output;
  steps = 0;
  ended = None;
}

pub start_is : (p : Prog) (limit : ℕ) (inputs : Inputs) (regs : ℕ → List SymByte) (store : ℕ → SymByte) (calls : List OpenCall) (channels : ℕ → Option ℕ) (queue : List Transfer) (areas : List Area) (mail output : List ℕ)
    → regs ≡ start_regs limit → store ≡ start_store p inputs → calls ≡ [] → channels ≡ start_words → queue ≡ [] → areas ≡ inputs.areas → mail ≡ inputs.mail → output ≡ []
    → made regs store calls channels queue areas mail output ≡ start p limit inputs
unfolding start
start_is p limit inputs regs store calls channels queue areas mail output a b c d e f g h =
    ap (λ (r : ℕ → List SymByte). made r store calls channels queue areas mail output) a
    ∙ ap (λ (m : ℕ → SymByte). made (start_regs limit) m calls channels queue areas mail output) b
    ∙ ap (λ (n : List OpenCall). made (start_regs limit) (start_store p inputs) n channels queue areas mail output) c
    ∙ ap (λ (n : ℕ → Option ℕ). made (start_regs limit) (start_store p inputs) [] n queue areas mail output) d
    ∙ ap (λ (n : List Transfer). made (start_regs limit) (start_store p inputs) [] start_words n areas mail output) e
    ∙ ap (λ (n : List Area). made (start_regs limit) (start_store p inputs) [] start_words [] n mail output) f
    ∙ ap (λ (n : List ℕ). made (start_regs limit) (start_store p inputs) [] start_words [] inputs.areas n output) g
    ∙ ap (λ (n : List ℕ). made (start_regs limit) (start_store p inputs) [] start_words [] inputs.areas inputs.mail n) h

-- ---- programs that are judged

pub judged_loadable : (p : Prog) (limit : ℕ) (j : Judged) → IsJudgement p limit j → limit % QUAD_SIZE ≡ 0 → limit ≤ MAX_STACK_LIMIT → p.data_end ≤ STACK_TOP - limit → IsLoadable j.prog j.depths limit
judged_loadable p limit j is whole most apart =
    subst (λ (q : Prog). IsLoadable q j.depths limit) (sym is.program) (record {
      formed = is.judged.formed;
      depths = is.depths;
      count = is.count;
      need = is.need;
      heaviest = is.judged.heaviest;
      acyclic = is.judged.acyclic;
      whole = whole;
      least = is.least;
      most = most;
      apart = apart;
    })

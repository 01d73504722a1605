-- What a hop rests on, and the relation that it keeps.
use Rattle.spu_word.specs.declared.load.Inputs.{Inputs}
use Rattle.std.specs.Prelude.{◌≡◌, ℕ, ◌+◌, ◌-◌, ◌*◌, ◌<◌, ◌≤◌, List, length, map, slice_index, Some}
use Rattle.std.specs.List.{AllByRecursion}
use Rattle.spu_word.specs.declared.limits.TheConstants.{DATA_START, QUAD_SIZE, STACK_TOP}
use Rattle.spu_lift.specs.declared.program.SymInst.{SymInst}
use Rattle.spu_lift.specs.declared.program.Prog.{Prog}
use Rattle.spu_lift.specs.Places.{instruction_at}
use Rattle.spu_exec.specs.Entries.{Entry}
use Rattle.spu_lift.specs.declared.program.Part as section
use Rattle.spu_ls.specs.Stores.{Store, fetch, load}
use Rattle.spu_ls.specs.Machine.{State}
use Rattle.spu_ideal.specs.Bytes.{known_word}
use Rattle.spu_ideal.specs.State.{Sym}
use Rattle.spu_ideal.specs.Machine.{entry_of, start, run}
use Rattle.spu_layout.specs.Layouts.{Layout, IsFixed, IsShared}
use Rattle.spu_layout.specs.Labels.{code}
use Rattle.spu_image.specs.Agreeing.{Agrees}
use Rattle.spu_image.specs.Images.{start_quad}
use Rattle.spu_image.specs.Words.{IsWord}
use Rattle.spu_image.specs.Matching.{Matches}
use Rattle.spu_ls.specs.Sound.{IsSound}
use Rattle.spu_ideal.specs.Promises.{IsHigh}

-- what the symbolic machine promises of a program whose frames and need are these
pub record IsPromised (p : Prog) (frames : ℕ → ℕ) (limit need : ℕ) (given : Inputs) : Type 0 where
  pub high : (n : ℕ) → IsHigh p frames limit (run p frames limit given n)
  pub pointer : (n : ℕ) → (w : ℕ) × (known_word ((run p frames limit given n).regs 1) 0 ≡ Some w) × (STACK_TOP - need ≤ w)

-- each place of the root has its word
abbrev pub HasRoot : Prog → Layout → Store → Type 0
HasRoot p l m = (f i : ℕ) (x : SymInst) → instruction_at p f i ≡ Some x → l.region f ≡ 0 → IsWord l f i x (fetch m (l.at f i))

-- the state after the first step
pub record IsBegun (p : Prog) (l : Layout) (limit : ℕ) (given : Inputs) (first : State) : Type 0 where
  pub matched : Matches l (start p limit given) first
  pub sound : IsSound first
  pub root : HasRoot p l first.store

-- the relation that a hop keeps: the states match, and the fixed bytes and the image are those of the start
pub record Kept (l : Layout) (first : State) (s : Sym) (m : State) : Type 0 where
  pub matched : Matches l s m
  pub sound : IsSound m
  pub fixed : (a : ℕ) → IsFixed l a → m.store a ≡ first.store a
  pub image : m.image ≡ first.image

-- what a run needs of the store in which it starts
pub record IsStored (p : Prog) (l : Layout) (limit : ℕ) (given : Inputs) (m : Store) : Type 0 where
  pub quad : load m p.data_end ≡ start_quad limit
  pub root : HasRoot p l m
  pub shared : (a : ℕ) → IsShared l a → Agrees (code l) ((start p limit given).store a) (m a)

-- the parts and the entries of a program lie in its data
pub record HasData (p : Prog) : Type 0 where
  pub low : DATA_START ≤ p.data_end
  pub parts : AllByRecursion (λ (x : section.Part). x.address + x.size ≤ p.data_end) p.parts
  pub ears : AllByRecursion (λ (e : Entry). (DATA_START ≤ e.at) × (e.at + QUAD_SIZE ≤ p.data_end)) (map entry_of p.ears)

-- the words of start code and root, from behind the start quadword on: each place has its word
pub record AreRootWords (p : Prog) (l : Layout) (words : List ℕ) : Type 0 where
  pub places : (f i : ℕ) (x : SymInst) → instruction_at p f i ≡ Some x → l.region f ≡ 0
      → (p.data_end + 16 ≤ l.at f i) × ((k : ℕ) × (l.at f i ≡ p.data_end + 16 + 4 * k) × (k < length words) × IsWord l f i x (slice_index words k))

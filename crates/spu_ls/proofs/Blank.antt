-- A store and registers of zeros.
use Rattle.std.proofs.Common.{◌≡◌, ℕ, zero, suc, List, [], get_or, replicate, refl, sym, ap, ◌∙◌}
use Rattle.std.proofs.Common.{arith}
use Rattle.std.proofs.lemmas.Bool.{cond-true, cond-false, lt-ltb, le-ltb}
use Rattle.std.proofs.lemmas.Bool.Decides.{nat_tests}
use Rattle.std.proofs.Math.Path.{fun_ext}
use Rattle.std.specs.Prelude.{nat_lt, if◌then◌else◌}
use Rattle.spu_word.specs.declared.big_endian.Quad.{Quad}
use Rattle.spu_exec.specs.Places.{code_mask}
use Rattle.spu_ls.specs.Stores.{Store, bytes_of}
use Rattle.spu_ls.specs.Machine.{State}
use Rattle.spu_word.specs.declared.load.Area.{Area}
use Rattle.spu_word.specs.declared.load.Inputs.{Inputs}
use Rattle.spu_exec.specs.declared.transfers.Transfer.{Transfer}
use Rattle.spu_ls.specs.View.{regs_of}
use Rattle.spu_ls.specs.Start.{image_of, started, zero_registers}

zero_at : (n k x : ℕ) → get_or (replicate n x) k x ≡ x
zero_at zero k x = refl
zero_at (suc n) zero x = refl
zero_at (suc n) (suc k) x = zero_at n k x

pub blank_store : (xs : List ℕ) (n : ℕ) → xs ≡ replicate n 0 → bytes_of xs ≡ λ k. 0
blank_store xs n e = fun_ext (λ k. ap (λ ys. get_or ys k 0) e ∙ zero_at n k 0)

reg_at : (n k : ℕ) (q : Quad) → regs_of (replicate n q) k ≡ (if nat_lt k n then q.0 else [])
reg_at zero k q = sym (cond-false (nat_lt k zero) q.0 [] (le-ltb k zero (omega arith)))
reg_at (suc n) zero q = sym (cond-true (nat_lt zero (suc n)) q.0 [] (lt-ltb zero (suc n) (omega arith)))
reg_at (suc n) (suc k) q = reg_at n k q ∙ (let e : nat_lt k n ≡ nat_lt (suc k) (suc n) = grind (arith, nat_tests) in ap (λ b. if b then q.0 else []) e)

pub blank_regs : (xs : List Quad) (n : ℕ) (q : Quad) → xs ≡ replicate n q → regs_of xs ≡ λ k. if nat_lt k n then q.0 else []
blank_regs xs n q e = fun_ext (λ k. ap (λ ys. regs_of ys k) e ∙ reg_at n k q)

-- a start is made of its parts
abbrev pub made : ℕ → ℕ → Store → (ℕ → List ℕ) → ℕ → (ℕ → ℕ) → List Area → List ℕ → List ℕ → List Transfer → List ℕ → State
made entry ea m r p c areas image mail queue output = record (started m entry (record { ea = ea; bytes = image }) areas mail) {
  regs = r;
  pc = p;
  channels = c;
  queue = queue;
  output = output;
}

pub blank_is : (entry : ℕ) (file : List ℕ) (inputs : Inputs) (store : Store) (regs : ℕ → List ℕ) (pc : ℕ) (channels : ℕ → ℕ) (areas : List Area) (image mail : List ℕ) (queue : List Transfer) (output : List ℕ) →
    store ≡ (λ k. 0) → regs ≡ zero_registers → pc ≡ code_mask entry → channels ≡ (λ n. 0) → areas ≡ inputs.areas → image ≡ file → mail ≡ inputs.mail → queue ≡ [] → output ≡ [] →
    made entry inputs.image_ea store regs pc channels areas image mail queue output ≡ started (λ k. 0) entry (image_of file inputs) inputs.areas inputs.mail
blank_is entry file inputs store regs pc channels areas image mail queue output a b c d e f g h i =
    ap (λ m. made entry inputs.image_ea m regs pc channels areas image mail queue output) a
    ∙ ap (λ r. made entry inputs.image_ea (λ k. 0) r pc channels areas image mail queue output) b
    ∙ ap (λ p. made entry inputs.image_ea (λ k. 0) zero_registers p channels areas image mail queue output) c
    ∙ ap (λ n. made entry inputs.image_ea (λ k. 0) zero_registers (code_mask entry) n areas image mail queue output) d
    ∙ ap (λ n. made entry inputs.image_ea (λ k. 0) zero_registers (code_mask entry) (λ k. 0) n image mail queue output) e
    ∙ ap (λ n. made entry inputs.image_ea (λ k. 0) zero_registers (code_mask entry) (λ k. 0) inputs.areas n mail queue output) f
    ∙ ap (λ n. made entry inputs.image_ea (λ k. 0) zero_registers (code_mask entry) (λ k. 0) inputs.areas file n queue output) g
    ∙ ap (λ n. made entry inputs.image_ea (λ k. 0) zero_registers (code_mask entry) (λ k. 0) inputs.areas file inputs.mail n output) h
    ∙ ap (λ n. made entry inputs.image_ea (λ k. 0) zero_registers (code_mask entry) (λ k. 0) inputs.areas file inputs.mail [] n) i

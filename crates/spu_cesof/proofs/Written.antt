-- What the writer of objects asks for.
use Rattle.std.proofs.Common.{◌≡◌, ℕ, ◌+◌, ◌-◌, ◌^◌, ◌<◌, ◌≤◌, Bool, true, false, List, length, if◌then◌else◌, ◌==◌, ap, ◌∙◌, arith}
use Rattle.std.proofs.lemmas.List.{length-map}
use Rattle.spu_elf.specs.Spelling.{symbols_number, spell_from}
use Rattle.spu_elf.specs.Validity.{IsValidExec}
use Rattle.spu_elf.specs.declared.objects.Object.{Object}
use Rattle.spu_elf.specs.declared.executables.Exec.{Exec}
use Rattle.spu_elf.proofs.ExtentLemmas.{few_exec_symbols}
use Rattle.spu_cesof.specs.Embedding.{entry_names, entry_symbol, object_of, embedding}
use Rattle.spu_cesof.proofs.Whole.{count_is}
use Rattle.spu_cesof.proofs.ForthWhole.{names_few}

pub few_sections : (o : Object) (name : List ℕ) (names : List (List ℕ)) (file : List ℕ) → o ≡ object_of name names file → length o.sections ≤ 4096
few_sections o name names file e = omega (arith, ap (λ (q : Object). length q.sections) e)

pub few_symbols : (o : Object) (name : List ℕ) (names : List (List ℕ)) (file : List ℕ) → o ≡ object_of name names file → length names ≤ 262144 → length o.symbols < 2 ^ 40
few_symbols o name names file e le = omega (arith, ap (λ (q : Object). length q.symbols) e, length-map names entry_symbol)

pub few_headers : (o : Object) (name : List ℕ) (names : List (List ℕ)) (file : List ℕ) → o ≡ object_of name names file → symbols_number o + 3 ≤ 4096
few_headers o name names file e =
    let number : symbols_number o + 3 ≡ symbols_number (object_of name names file) + 3 = ap (λ (q : Object). symbols_number q + 3) e in
    omega (arith, number ∙ count_is name names file, at_most (length names == 0))
  where
    at_most : (t : Bool) → 9 - 1 + (if t then 0 else 1) ≤ 9
    at_most true = omega arith
    at_most false = omega arith

pub few_names : (x : Exec) → IsValidExec x → length (entry_names x.symbols) ≤ 262144
few_names x valid = omega (arith, names_few x.symbols, few_exec_symbols x valid.small)

pub size_is : (size : ℕ) (o : Object) (name : List ℕ) (names : List (List ℕ)) (file : List ℕ) → o ≡ object_of name names file → ((machine : ℕ) → size ≡ length (spell_from machine 128 o)) → size ≡ length (embedding name names file)
unfolding embedding
size_is size o name names file e h = h 20 ∙ ap (λ (q : Object). length (spell_from 20 128 q)) e

-- A start over bytes is sound.
use Rattle.std.proofs.Common.{◌≡◌, ℕ, ◌%◌, ◌/◌, ◌^◌, ◌<◌, List, [], ◌∷◌, length, Option, Some, None, true, refl, sym, subst, arith}
use Rattle.std.specs.Prelude.{nat_lt, replicate, option_map}
use Rattle.std.specs.List.{All}
use Rattle.std.specs.Str.{bytes_eq}
use Rattle.std.proofs.lemmas.Bool.{cond_both}
use Rattle.std.proofs.lemmas.Bool.Decides.{nat_tests}
use Rattle.std.proofs.lemmas.List.{get_or_default}
use Rattle.std.proofs.lemmas.List.Elements.{All-head, All-nil, All-replicate}
use Rattle.spu_word.specs.Bytes.{quad_of}
use Rattle.spu_word.specs.declared.limits.TheConstants.{QUAD_SIZE, REGISTER_COUNT}
use Rattle.spu_word.specs.declared.load.Area.{Area}
use Rattle.spu_word.specs.declared.load.Inputs.{Inputs}
use Rattle.spu_elf.specs.declared.executables.Segment.{Segment}
use Rattle.spu_elf.specs.declared.executables.Exec.{Exec}
use Rattle.spu_exec.specs.Entries.{Entry, area_quad, quad_for}
use Rattle.spu_exec.specs.Transfers.{Stretch, is_taken}
use Rattle.spu_exec.specs.declared.transfers.Transfer.{Transfer}
use Rattle.spu_exec.specs.Values.{HasBytes}
use Rattle.spu_exec.proofs.Sound.{quad_small}
use Rattle.spu_ls.specs.declared.admission.Misfit.{Misfit}
use Rattle.spu_ls.specs.Stores.{Store, placed}
use Rattle.spu_ls.specs.Entries.{entries_of, image_place}
use Rattle.spu_ls.specs.Loading.{load_fault, misfit_of, fault_of}
use Rattle.spu_ls.specs.Sound.{AreBytes, AreRegisters, IsOverBytes, IsSound}
use Rattle.spu_ls.specs.Start.{image_of, image_quad, loaded, start, with_entries, with_image, zero_registers}
use Rattle.spu_ls.proofs.Memories.{placed_small, small_at}
use Rattle.spu_ls.proofs.Misfits.{none_in}
use Rattle.spu_ls.proofs.Sounding.{masked}

quad_bytes : (a b c d : ℕ) → AreBytes (quad_of a b c d)
quad_bytes a b c d = λ k e lt. subst (λ v. v < 256) (sym (get_or_default (quad_of a b c d) k e 0 lt)) (quad_small a b c d k lt)

found_bytes : (areas : List Area) (name : List ℕ) → AreBytes (quad_for areas name)
found_bytes [] name = All-nil (λ v. v < 256)
found_bytes (a ∷ areas) name =
    cond_both (bytes_eq a.name name) (area_quad a) (quad_for areas name) AreBytes
    (λ is. quad_bytes (a.ea / 2 ^ 32) (a.ea % 2 ^ 32) (length a.bytes) 0) (λ is. found_bytes areas name)

loaded_small : (ss : List Segment) → All (λ (s : Segment). AreBytes s.bytes) ss → (k : ℕ) → loaded ss k < 256
loaded_small [] h k = omega arith
loaded_small (s ∷ ss) h k = placed_small (λ j. 0) s.address s.bytes (λ j. omega arith) (All-head (λ (t : Segment). AreBytes t.bytes) s ss h) k

entries_small : (es : List Entry) (areas : List Area) (m : Store) → ((k : ℕ) → m k < 256) → (k : ℕ) → with_entries es areas m k < 256
unfolding with_entries
entries_small [] areas m h k = h k
entries_small (e ∷ es) areas m h k = entries_small es areas (placed e.at (quad_for areas e.name) m) (placed_small m e.at (quad_for areas e.name) h (found_bytes areas e.name)) k

image_small : (at : Option ℕ) (image : Stretch) (m : Store) → ((k : ℕ) → m k < 256) → (k : ℕ) → with_image at image m k < 256
image_small None image m h k = h k
image_small (Some at) image m h k = placed_small m at (image_quad image.ea) h (quad_bytes (image.ea / 2 ^ 32) (image.ea % 2 ^ 32) 0 0) k

zero_small : (n : ℕ) → HasBytes (replicate n 0)
zero_small n k lt = small_at (replicate n 0) k (All-replicate (λ v. v < 256) n 0 (omega arith))

zeros : AreRegisters zero_registers
zeros = record {
  bytes = λ r. cond_both (nat_lt r REGISTER_COUNT) (replicate QUAD_SIZE 0) [] HasBytes (λ is. zero_small QUAD_SIZE) (λ is k lt. omega arith);
  whole = λ r lt. cond_both (nat_lt r REGISTER_COUNT) (replicate QUAD_SIZE 0) [] (λ q. length q ≡ QUAD_SIZE) (λ is. refl) (λ is. absurd (grind (arith, nat_tests)));
}

no_fault : (x : Exec) (file : List ℕ) (i : Inputs) (o : Option Misfit) → option_map (fault_of x i) o ≡ None → o ≡ None
no_fault x file i None e = refl
no_fault x file i (Some m) e = cc

pub start_sound : (x : Exec) (file : List ℕ) (i : Inputs) → IsOverBytes x file i → load_fault x file i ≡ None → IsSound (start x file i)
unfolding start
start_sound x file i h e =
    let none = none_in x file i (no_fault x file i (misfit_of x file i) e) in
    record {
      memory = record {
        store = image_small (image_place x.symbols) (image_of file i) (with_entries (entries_of x.symbols) i.areas (loaded x.segments))
            (entries_small (entries_of x.symbols) i.areas (loaded x.segments) (loaded_small x.segments h.segments));
        image = h.file;
        areas = h.areas;
        apart = none.3;
        fit = none.0;
      };
      registers = zeros;
      channels = record {
        words = λ n. omega arith;
        update = tt;
        few = omega arith;
        mail = h.mail;
        output = All-nil (λ w. w < 2 ^ 32);
        room = omega arith;
      };
      waiting = All-nil (λ (t : Transfer). is_taken (image_of file i) i.areas t ≡ true);
      place = masked x.entry;
    }

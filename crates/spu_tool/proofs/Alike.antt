-- What runs make of an object that embeds an executable.
use Rattle.std.proofs.Common.{◌≡◌, ℕ, Bool, true, false, List, Option, Some, None, refl, sym, subst, ◌∙◌, inl, inr}
use Rattle.spu_elf.specs.declared.executables.Exec.{Exec}
use Rattle.spu_elf.specs.Spelling.{spell_exec}
use Rattle.spu_cesof.specs.Embedding.{Embeds, embedding, entry_names}
use Rattle.spu_cesof.specs.Unpacking.{cesof_fault, image_in}
use Rattle.spu_cesof.specs.declared.faults.CesofFault.{CesofFault}
use Rattle.spu_cesof.proofs.Given.{taken_out}
use Rattle.spu_tool.specs.declared.made.Made.{Made}
use Rattle.spu_tool.specs.declared.options.RunOptions.{RunOptions}
use Rattle.spu_tool.specs.Makes.{is_embedded, MakesRun, MakesRunOf, AreRunAlike}

-- the machine of an executable is the SPU
exec_is_plain : (x : Exec) → is_embedded (spell_exec x) ≡ false
unfolding spell_exec
exec_is_plain x = refl

-- that of an object that embeds one is the PowerPC
object_is_embedded : (name : List ℕ) (names : List (List ℕ)) (file : List ℕ) → is_embedded (embedding name names file) ≡ true
unfolding embedding
object_is_embedded name names file = refl

file_is_plain : (handle file e : List ℕ) → Embeds handle file e → is_embedded file ≡ false
file_is_plain handle file e h = subst (λ b. is_embedded b ≡ false) h.file_is (exec_is_plain h.executable)

embeds_is_embedded : (handle file e : List ℕ) → Embeds handle file e → is_embedded e ≡ true
embeds_is_embedded handle file e h = subst (λ b. is_embedded b ≡ true) (sym h.spelled) (object_is_embedded handle (entry_names h.executable.symbols) file)

both : (b : Bool) → b ≡ true → b ≡ false → true ≡ false
both b t f = sym t ∙ f

never : true ≡ false → ⊥
never e = cc

none_some : (o : Option CesofFault) (f : CesofFault) → o ≡ None → o ≡ Some f → ⊥
none_some o f none some = cc

-- what a run makes of bytes that spell an executable
of_plain : (options : RunOptions) (name bytes : List ℕ) (files : List (List ℕ)) (m : Made) → is_embedded bytes ≡ false → MakesRunOf options name bytes files m → MakesRun options name bytes files m
of_plain options name bytes files m plain (inl r) = absurd (never (both (is_embedded bytes) r.embedded plain))
of_plain options name bytes files m plain (inr (inl u)) = absurd (never (both (is_embedded bytes) u.embedded plain))
of_plain options name bytes files m plain (inr (inr p)) = p.made

-- and of those that embed one
of_embedded : (options : RunOptions) (name bytes : List ℕ) (files : List (List ℕ)) (m : Made) → is_embedded bytes ≡ true → cesof_fault bytes ≡ None → MakesRunOf options name bytes files m
    → MakesRun options name (image_in bytes) files m
of_embedded options name bytes files m embedded passes (inl r) = r.made
of_embedded options name bytes files m embedded passes (inr (inl u)) = absurd (none_some (cesof_fault bytes) u.fault passes u.first)
of_embedded options name bytes files m embedded passes (inr (inr p)) = absurd (never (both (is_embedded bytes) embedded p.plain))

pub run_alike : AreRunAlike
run_alike handle file e h options name files m =
    let plain = file_is_plain handle file e h in
    let embedded = embeds_is_embedded handle file e h in
    let u = taken_out handle file e h in (
      λ made. inr (inr (record { plain = plain; made = subst (λ b. MakesRun options name b files m) u.image (of_embedded options name e files m embedded u.passes made) })),
      λ made. inl (record { embedded = embedded; passes = u.passes; made = subst (λ b. MakesRun options name b files m) (sym u.image) (of_plain options name file files m plain made) }),
    )

-- What embed answers.
use Rattle.std.proofs.Common.{◌≡◌, List, ℕ, ◌≤◌, length, Result, Ok, Err, sym, ap, subst, ◌∙◌}
use Rattle.std.specs.Result.{IfOk}
use Rattle.spu_word.specs.declared.limits.TheConstants.{MAX_FILE_SIZE}
use Rattle.spu_elf.specs.Spelling.{spell_exec}
use Rattle.spu_elf.specs.Validity.{IsName, IsValidExec}
use Rattle.spu_elf.specs.declared.executables.Exec.{Exec}
use Rattle.spu_cesof.specs.Embedding.{entry_names, embedding, Embeds}
use Rattle.spu_cesof.specs.Answers.{IsRefusedBySize, Unpacks}
use Rattle.spu_cesof.specs.declared.faults.CesofFault.{CesofFault}
use Rattle.spu_cesof.proofs.ForthWhole.{embedded_again}

pub embeds : (r : Result (List ℕ) CesofFault) (name : List ℕ) (x : Exec) (file : List ℕ) → IsName name → IsValidExec x → file ≡ spell_exec x → IfOk r (λ e. e ≡ embedding name (entry_names x.symbols) file) → IsRefusedBySize r (length (embedding name (entry_names x.symbols) file)) → IfOk r (λ e. Embeds name file e)
embeds (Ok e) name x file named valid is spelled size = record { named = named; executable = x; valid = valid; file_is = sym is; spelled = spelled; small = subst (λ (z : List ℕ). length z ≤ 4194304) (sym spelled) size }
embeds (Err e) name x file named valid is spelled size = tt

pub unpacks : (r : Result (List ℕ) CesofFault) (name : List ℕ) (x : Exec) (file : List ℕ) → IsName name → IsValidExec x → file ≡ spell_exec x → IfOk r (λ e. e ≡ embedding name (entry_names x.symbols) file) → IsRefusedBySize r (length (embedding name (entry_names x.symbols) file)) → IfOk r (λ e. Unpacks e file)
unpacks (Ok e) name x file named valid is spelled size =
    let whole : embedding name (entry_names x.symbols) file ≡ embedding name (entry_names x.symbols) (spell_exec x) = ap (embedding name (entry_names x.symbols)) is in
    let same : e ≡ embedding name (entry_names x.symbols) (spell_exec x) = spelled ∙ whole in
    subst (λ (z : List ℕ). Unpacks z file) (sym same) (subst (λ (z : List ℕ). Unpacks (embedding name (entry_names x.symbols) (spell_exec x)) z) (sym is) (embedded_again name x named valid (subst (λ (z : List ℕ). length z ≤ 4194304) whole size)))
unpacks (Err e) name x file named valid is spelled size = tt

-- what embeds an executable's file is taken out as that file
pub taken_out : (name file e : List ℕ) → Embeds name file e → Unpacks e file
taken_out name file e h =
    let names = entry_names h.executable.symbols in
    let spelled : e ≡ embedding name names (spell_exec h.executable) = h.spelled ∙ ap (embedding name names) (sym h.file_is) in
    subst (Unpacks e) h.file_is
    (subst (λ b. Unpacks b (spell_exec h.executable)) (sym spelled)
    (embedded_again name h.executable h.named h.valid (subst (λ b. length b ≤ MAX_FILE_SIZE) spelled h.small)))

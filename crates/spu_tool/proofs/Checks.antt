-- What a check of objects shows is told, and so is why nothing was run.
use Rattle.std.proofs.Common.{◌≡◌, ◌⊎◌, ℕ, ◌-◌, ◌<◌, ◌≤◌, List, [], None, Result, Ok, Err, IfOk, inl, inr, ap, ◌∙◌, subst}
use Rattle.spu_word.specs.declared.limits.TheConstants.{STACK_TOP}
use Rattle.spu_word.specs.declared.load.Inputs.{Inputs}
use Rattle.spu_word.specs.declared.sequence.OutOfMemory.{OutOfMemory}
use Rattle.spu_elf.specs.declared.objects.Object.{Object}
use Rattle.spu_frame.specs.Found.{frame_at}
use Rattle.spu_judge.specs.declared.outcome.Judged.{Judged}
use Rattle.spu_judge.specs.Answers.{IsJudgement}
use Rattle.spu_ideal.specs.declared.ending.IdealEnd.{IdealEnd}
use Rattle.spu_ideal.specs.Ends.{end_of}
use Rattle.spu_ideal.specs.Loading.{IsLoadable, load_fault}
use Rattle.spu_ideal.specs.Machine.{start}
use Rattle.spu_ideal.specs.State.{Sym}
use Rattle.spu_ideal.specs.View.{steps}
use Rattle.spu_ideal.proofs.Begun.{judged_loadable}
use Rattle.spu_ideal.proofs.Stepped.{steps_run}
use Rattle.spu_image.specs.declared.outcome.LinkFault.TheVariants as links
use Rattle.spu_image.specs.Linking.{IsJudgedFrom, IsJudgeFault}
use Rattle.spu_tool.specs.declared.made.Made.{Made}
use Rattle.spu_tool.specs.declared.options.CheckOptions.{CheckOptions}
use Rattle.spu_tool.specs.Options.{IsStackSize}
use Rattle.spu_tool.specs.LinkLines.{link_line}
use Rattle.spu_tool.specs.Makes.{Checks, ChecksTo, LinksNot, LoadsNot, MakesCheck, ReadsOrNot, RunsSymbolically, check_status, check_text, inputs_of, made, refused}

-- a program that is loaded is run
pub runs_if : (j : Judged) (limit : ℕ) (i : Inputs) (budget : ℕ) (s t : Sym) (end : IdealEnd) (a : Result Made OutOfMemory)
    → load_fault j.prog i ≡ None → s ≡ start j.prog limit i → t ≡ steps j.prog (frame_at j.depths) budget s → end ≡ end_of t.ended
    → IfOk a (λ m. m ≡ made (check_status end) None (check_text j.prog t))
    → IfOk a (λ m. RunsSymbolically j limit i budget m ⊎ LoadsNot (load_fault j.prog i) m)
runs_if j limit i budget s t end (Err e) none es et ee h = tt
runs_if j limit i budget s t end (Ok m) none es et ee h =
    inl (record {
      fits = none;
      is =
          subst (λ u. m ≡ made (check_status (end_of u.ended)) None (check_text j.prog u))
          (et ∙ ap (λ v. steps j.prog (frame_at j.depths) budget v) es ∙ steps_run j.prog (frame_at j.depths) limit i budget)
          (subst (λ f. m ≡ made (check_status f) None (check_text j.prog t)) ee h);
    })

-- what is judged can be loaded where its data end below the stack
pub loadable : (j : Judged) (limit : ℕ) → IsJudgement j.prog limit j → IsStackSize limit → j.prog.data_end ≤ STACK_TOP - limit → IsLoadable j.prog j.depths limit
loadable j limit is size apart = judged_loadable j.prog limit j is size.whole size.low apart

-- the judged program is run, or can't be loaded
pub below_if : (j : Judged) (limit : ℕ) (i : Inputs) (budget : ℕ) (a : Result Made OutOfMemory) → j.prog.data_end ≤ STACK_TOP - limit
    → IfOk a (λ m. RunsSymbolically j limit i budget m ⊎ LoadsNot (load_fault j.prog i) m) → IfOk a (Checks j limit i budget)
below_if j limit i budget (Err e) apart h = tt
below_if j limit i budget (Ok m) apart h = inl (record { apart = apart; made = h })

-- its data don't end below the stack
pub over_if : (j : Judged) (limit : ℕ) (i : Inputs) (budget : ℕ) (a : Result Made OutOfMemory) → STACK_TOP - limit < j.prog.data_end
    → IfOk a (λ m. m ≡ refused (link_line [] (links.TooLarge j.prog.data_end (STACK_TOP - limit)))) → IfOk a (Checks j limit i budget)
over_if j limit i budget (Err e) over h = tt
over_if j limit i budget (Ok m) over h = inr (record { over = over; is = h })

-- the objects are judged
pub checked_if : (o : CheckOptions) (names : List (List ℕ)) (objects : List Object) (areas : List (List ℕ)) (j : Judged) (i : Inputs) (a : Result Made OutOfMemory)
    → IsJudgedFrom objects o.entry o.limit j → i ≡ inputs_of o.run areas → IfOk a (Checks j o.limit i o.run.steps)
    → IfOk a (λ m. ChecksTo o objects areas m ⊎ LinksNot (IsJudgeFault objects o.entry o.limit) names m)
checked_if o names objects areas j i (Err e) from is h = tt
checked_if o names objects areas j i (Ok m) from is h = inl (record { judged = j; from = from; made = subst (λ given. Checks j o.limit given o.run.steps m) is h })

-- the objects are those of files
pub made_if : (o : CheckOptions) (names files areas : List (List ℕ)) (objects : List Object) (a : Result Made OutOfMemory) → ReadsOrNot names files (Ok objects)
    → IfOk a (λ m. ChecksTo o objects areas m ⊎ LinksNot (IsJudgeFault objects o.entry o.limit) names m) → IfOk a (MakesCheck o names files areas)
made_if o names files areas objects (Err e) read h = tt
made_if o names files areas objects (Ok m) read h =
    inl (record { read = read.0; made = subst (λ os. ChecksTo o os areas m ⊎ LinksNot (IsJudgeFault os o.entry o.limit) names m) read.1 h })

-- What the link of a judged program answers: its flat image, or why there is none. (No standard has it: the order of an image's parts
-- and the limits of files are this project's own.)
use Rattle.std.specs.Prelude.{◌≡◌, ℕ, ◌-◌, ◌<◌, Bool, true, false, length, Option, Some}
use Rattle.spu_word.specs.declared.limits.TheConstants.{MAX_FILE_SIZE, STACK_TOP}
use Rattle.spu_elf.specs.declared.executables.Exec.{Exec}
use Rattle.spu_elf.specs.Spelling.{spell_exec}
use Rattle.spu_elf.specs.Validity.{IsValidExec}
use Rattle.spu_lift.specs.declared.program.Prog.{Prog}
use Rattle.spu_frame.specs.Found.{frame_at}
use Rattle.spu_graph.specs.Known.{need_of}
use Rattle.spu_judge.specs.declared.outcome.Judged.{Judged}
use Rattle.spu_plan.specs.declared.plan.Plan.{Plan}
use Rattle.spu_plan.specs.Plans.{flat_end}
use Rattle.spu_layout.specs.Placing.{FitsFlat, layout_of, sizes_of}
use Rattle.spu_layout.specs.Views.{function_count, layout_in}
use Rattle.spu_image.specs.Images.{IsFlatExec, untold}
use Rattle.spu_image.specs.Headline.{Headline}
use Rattle.spu_image.specs.declared.outcome.Linked.{Linked}
use Rattle.spu_image.specs.declared.outcome.LinkFault.{LinkFault}
use Rattle.spu_image.specs.declared.outcome.LinkFault.TheVariants as faults

-- the needs that stack symbols tell: all that are known, if they are asked for
abbrev pub told_of : Bool → (ℕ → Option ℕ) → ℕ → Option ℕ
told_of true needs = needs
told_of false needs = untold

-- the program, its depths, frames and needs, of which an image is made
abbrev pub judged_in : Linked → Judged
judged_in l = record { prog = l.prog; depths = l.depths; needs = l.needs }

-- a flat plan with which the program fits, its layout, its executable and that one's file, and what a run of the executable promises
-- within the need of the entry
pub record IsImage (limit : ℕ) (stack_syms : Bool) (l : Linked) : Type 0 where
  pub fits : FitsFlat l.prog l.plan limit
  pub layout : layout_in l.layout ≡ layout_of l.prog l.plan limit
  pub functions : function_count l.layout ≡ length l.prog.functions
  pub image : IsFlatExec l.prog (layout_of l.prog l.plan limit) limit (told_of stack_syms (need_of l.needs)) l.exec
  pub valid : IsValidExec l.exec
  pub file : l.file ≡ spell_exec l.exec
  pub need : ℕ
  pub entry : need_of l.needs l.prog.entry ≡ Some need
  pub headline : Headline l.prog (layout_of l.prog l.plan limit) (frame_at l.depths) limit need l.exec l.file

-- L20: the flat image doesn't end below the stack
pub record IsTooLarge (p : Prog) (limit least room : ℕ) : Type 0 where
  pub end : least ≡ flat_end p.data_end (sizes_of p)
  pub below : room ≡ STACK_TOP - limit
  pub over : room < least

-- L21: the flat image fits, and its file has more bytes than a file may have
pub record IsFileTooLarge (p : Prog) (limit : ℕ) (told : ℕ → Option ℕ) (size : ℕ) : Type 0 where
  pub plan : Plan
  pub fits : FitsFlat p plan limit
  pub exec : Exec
  pub image : IsFlatExec p (layout_of p plan limit) limit told exec
  pub is : size ≡ length (spell_exec exec)
  pub over : MAX_FILE_SIZE < size

-- a judged program has no image for one of two reasons, which want of memory may hide
abbrev pub IsPlanRefused : Prog → ℕ → LinkFault → Type 0
IsPlanRefused p limit (faults.TooLarge least room) = IsTooLarge p limit least room
IsPlanRefused p limit faults.OutOfMemory = Unit {0}
IsPlanRefused p limit _ = ⊥

abbrev pub IsImageRefused : Judged → ℕ → Bool → LinkFault → Type 0
IsImageRefused j limit stack_syms (faults.TooLarge least room) = IsTooLarge j.prog limit least room
IsImageRefused j limit stack_syms (faults.FileTooLarge size) = IsFileTooLarge j.prog limit (told_of stack_syms (need_of j.needs)) size
IsImageRefused j limit stack_syms faults.OutOfMemory = Unit {0}
IsImageRefused j limit stack_syms _ = ⊥

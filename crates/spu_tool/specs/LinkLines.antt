-- The lines of the faults of links: the number and the name of each, and where it is.
use Rattle.std.specs.Prelude.{ℕ, List, ◌++◌, [], codes, slice_index_or}
use Rattle.std.specs.List.{flat_map}
use Rattle.std.specs.Fmt.{decimal}
use Rattle.spu_lift.specs.declared.fault.LiftKind.{LiftKind}
use Rattle.spu_lift.specs.declared.fault.LiftKind.TheVariants as lift
use Rattle.spu_lift.specs.declared.fault.LiftFault.{LiftFault}
use Rattle.spu_lift.specs.declared.fault.LiftFault.TheVariants as lifts
use Rattle.spu_frame.specs.declared.faults.FrameKind.{FrameKind}
use Rattle.spu_frame.specs.declared.faults.FrameKind.TheVariants as frame
use Rattle.spu_image.specs.declared.outcome.LinkFault.{LinkFault}
use Rattle.spu_image.specs.declared.outcome.LinkFault.TheVariants as links

abbrev pub lift_name : LiftKind → List ℕ
lift_name lift.DuplicateSymbol = codes "L1 DuplicateSymbol"
lift_name lift.UndefinedSymbol = codes "L2 UndefinedSymbol"
lift_name lift.ReservedName = codes "L3 ReservedName"
lift_name lift.NoEntry = codes "L4 NoEntry"
lift_name lift.Misaligned = codes "L5 Misaligned"
lift_name lift.CodeOutsideFunction = codes "L6 CodeOutsideFunction"
lift_name lift.FunctionOverlap = codes "L7 FunctionOverlap"
lift_name lift.UnknownInstruction = codes "L8 UnknownInstruction"
lift_name lift.BadRelocation = codes "L9 BadRelocation"
lift_name lift.BadTarget = codes "L10 BadTarget"
lift_name lift.CodeAddend = codes "L11 CodeAddend"
lift_name lift.LinkRegister = codes "L12 LinkRegister"
lift_name lift.ReadsCode = codes "L13 ReadsCode"

abbrev pub frame_name : FrameKind → List ℕ
frame_name frame.StackWrite = codes "L14 StackWrite"
frame_name frame.DepthDisagrees = codes "L15 DepthDisagrees"
frame_name frame.DepthAtExit = codes "L16 DepthAtExit"
frame_name frame.DepthRange = codes "L17 DepthRange"

-- a fault of a name, and a fault at an offset of what has this name
abbrev pub symbol_line : List ℕ → List ℕ → List ℕ
symbol_line what name = what ++ codes " " ++ name ++ codes "\n"

abbrev pub place_line : List ℕ → List ℕ → ℕ → List ℕ
place_line what name offset = what ++ codes " " ++ name ++ codes " " ++ decimal offset ++ codes "\n"

-- a fault with two numbers
abbrev pub pair_line : List ℕ → ℕ → ℕ → List ℕ
pair_line what first second = what ++ codes " " ++ decimal first ++ codes " " ++ decimal second ++ codes "\n"

-- why objects of these files stand for no program; a file is named as the words name it
abbrev pub lift_line : List (List ℕ) → LiftFault → List ℕ
lift_line files lifts.NoEntry = codes "L4 NoEntry\n"
lift_line files (lifts.Symbol kind name) = symbol_line (lift_name kind) name
lift_line files (lifts.Site kind object section offset) =
    place_line (lift_name kind ++ codes " " ++ slice_index_or files object []) section offset
lift_line files (lifts.Word kind function offset) = place_line (lift_name kind) function offset
lift_line files lifts.OutOfMemory = []

-- the functions of a cycle, in order
abbrev pub cycle_line : List (List ℕ) → List ℕ
cycle_line names = codes "L18 Recursion" ++ flat_map (λ name. codes " " ++ name) names ++ codes "\n"

-- why objects of these files aren't linked; want of memory has no line
abbrev pub link_line : List (List ℕ) → LinkFault → List ℕ
link_line files (links.Lift fault) = lift_line files fault
link_line files (links.Frame kind name offset) = place_line (frame_name kind) name offset
link_line files (links.Recursion names) = cycle_line names
link_line files (links.StackLimit need limit) = pair_line (codes "L19 StackLimit") need limit
link_line files (links.TooLarge least room) = pair_line (codes "L20 TooLarge") least room
link_line files (links.FileTooLarge size) = codes "L21 FileTooLarge " ++ decimal size ++ codes "\n"
link_line files links.OutOfMemory = []

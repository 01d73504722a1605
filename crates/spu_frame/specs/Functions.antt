-- The instructions of a function, and the target that an operand names.
use Rattle.std.specs.Prelude.{ℕ, List, [], Option, Some, None, slice_get}
use Rattle.spu_lift.specs.declared.program.Operand.{Operand}
use Rattle.spu_lift.specs.declared.program.Operand.TheVariants as operand
use Rattle.spu_lift.specs.declared.program.SymInst.{SymInst}
use Rattle.spu_lift.specs.declared.program.Function.{Function}
use Rattle.spu_lift.specs.declared.program.Prog.{Prog}

abbrev pub code_in : Option Function → List SymInst
code_in None = []
code_in (Some g) = g.code

abbrev pub code_of : Prog → ℕ → List SymInst
code_of p f = code_in (slice_get p.functions f)

abbrev pub branch_target : Operand → Option ℕ
branch_target operand.Plain = None
branch_target (operand.Number n) = None
branch_target (operand.Address l) = None
branch_target (operand.Call g) = None
branch_target (operand.Jump g) = None
branch_target (operand.Branch j) = Some j

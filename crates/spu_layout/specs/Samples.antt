-- A small program on which layouts are tried: `main` and `first` in one section of code, `second` and `third` in one each, behind 32 bytes
-- of data; its flat layout, and one whose second and third section lie in regions of two buffers.
use Rattle.std.specs.Prelude.{ℕ, false, true, List, [], ◌∷◌, codes, pos}
use Rattle.spu_isa.specs.declared.operation.Op.TheVariants as op
use Rattle.spu_lift.specs.declared.program.Operand.TheVariants as operand
use Rattle.spu_lift.specs.declared.program.SymInst.{SymInst}
use Rattle.spu_lift.specs.declared.program.Function.{Function}
use Rattle.spu_lift.specs.declared.program.Prog.{Prog}
use Rattle.spu_lift.specs.StartCode.{start_code}
use Rattle.spu_plan.specs.declared.plan.Plan.{Plan}
use Rattle.spu_plan.specs.Plans.{flat_plan}
use Rattle.spu_layout.specs.Layouts.{Layout}
use Rattle.spu_layout.specs.Placing.{layout_of, sizes_of}

abbrev pub nop : SymInst
nop = record { inst = record { op = op.Nop; rt = 0; ra = 0; rb = 0; rc = 0; imm = pos 0 }; operand = operand.Plain }

-- a function of these instructions, at an offset in a section
abbrev pub function_in : List ℕ → ℕ → ℕ → List SymInst → Function
function_in name section offset code = record { name = name; global = false; section = section; offset = offset; code = code; taken = [] }

abbrev pub sample : Prog
sample = record {
  functions = start_code 160 1 ∷ function_in (codes "main") 0 0 (nop ∷ nop ∷ nop ∷ []) ∷ function_in (codes "first") 0 12 (nop ∷ nop ∷ [])
      ∷ function_in (codes "second") 1 4 (nop ∷ []) ∷ function_in (codes "third") 2 0 (nop ∷ nop ∷ nop ∷ nop ∷ []) ∷ [];
  code = record { name = codes "a"; size = 20 } ∷ record { name = codes "b"; size = 8 } ∷ record { name = codes "c"; size = 16 } ∷ [];
  parts = record { address = 128; size = 32; bytes = []; labels = [] } ∷ [];
  taken = [];
  entry = 1;
  ears = [];
  globals = [];
  data_end = 160;
}

abbrev pub sample_plan : Plan
sample_plan = record { overlay = true; buffer = 128; regions = 2; region_of = 0 ∷ 1 ∷ 2 ∷ []; end = 1024; buffers = 2 }

abbrev pub flat_sample : Layout
flat_sample = layout_of sample (flat_plan 160 (sizes_of sample)) 4096

abbrev pub overlay_sample : Layout
overlay_sample = layout_of sample sample_plan 4096

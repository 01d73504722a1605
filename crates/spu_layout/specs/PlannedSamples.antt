-- Small programs with plans that are made for them, with overlays always: that of the samples with two buffers of 1,024 bytes, where the
-- second and third section share a region; and a pair of functions, in a section each, with one buffer of 16,384 bytes.
use Rattle.std.specs.Prelude.{false, true, [], ◌∷◌, codes, replicate}
use Rattle.spu_lift.specs.declared.program.Prog.{Prog}
use Rattle.spu_lift.specs.StartCode.{start_code}
use Rattle.spu_plan.specs.declared.input.Mode.TheVariants as mode
use Rattle.spu_plan.specs.declared.input.PlanInput.{PlanInput}
use Rattle.spu_plan.specs.declared.plan.Plan.{Plan}
use Rattle.spu_layout.specs.Layouts.{Layout}
use Rattle.spu_layout.specs.Placing.{layout_of}
use Rattle.spu_layout.specs.Samples.{nop, function_in, sample}

abbrev pub sample_input : PlanInput
sample_input = record {
  sizes = 32 ∷ 16 ∷ 16 ∷ [];
  rooted = true ∷ false ∷ false ∷ [];
  data_end = 160;
  functions = 4;
  room = 258016;
  mode = mode.Always;
  buffers = 2;
  largest = 1024;
}

abbrev pub sample_made : Plan
sample_made = record { overlay = true; buffer = 1024; regions = 1; region_of = 0 ∷ 1 ∷ 1 ∷ []; end = 2816; buffers = 2 }

abbrev pub sample_layout : Layout
sample_layout = layout_of sample sample_made 4096

abbrev pub pair : Prog
pair = record {
  functions = start_code 128 1 ∷ function_in (codes "main") 0 0 (replicate 7 nop) ∷ function_in (codes "f") 1 0 (replicate 3 nop) ∷ [];
  code = record { name = codes ".text"; size = 28 } ∷ record { name = codes ".text.f"; size = 12 } ∷ [];
  parts = [];
  taken = [];
  entry = 1;
  ears = [];
  globals = [];
  data_end = 128;
}

abbrev pub pair_input : PlanInput
pair_input = record {
  sizes = 32 ∷ 16 ∷ [];
  rooted = true ∷ false ∷ [];
  data_end = 128;
  functions = 2;
  room = 245728;
  mode = mode.Always;
  buffers = 1;
  largest = 16384;
}

abbrev pub pair_made : Plan
pair_made = record { overlay = true; buffer = 16384; regions = 1; region_of = 0 ∷ 1 ∷ []; end = 17024; buffers = 1 }

abbrev pub pair_layout : Layout
pair_layout = layout_of pair pair_made 16384

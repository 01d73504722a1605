-- A flat layout of a program with an instruction of each kind, on which the promise of a link is tried.
use Rattle.std.specs.Prelude.{ℕ, List}
use Rattle.spu_elf.specs.declared.executables.Exec.{Exec}
use Rattle.spu_ls.specs.Machine.{State, step}
use Rattle.spu_ls.specs.Start.{start}
use Rattle.spu_plan.specs.Plans.{flat_plan}
use Rattle.spu_ideal.specs.Samples.{nothing, tours}
use Rattle.spu_layout.specs.Layouts.{Layout, is_between}
use Rattle.spu_layout.specs.Placing.{layout_of, sizes_of}
use Rattle.spu_image.specs.Headline.{hops}

abbrev pub tour_layout : Layout
tour_layout = layout_of tours (flat_plan tours.data_end (sizes_of tours)) 16384

-- the machine that runs an executable of this layout, with nothing given, after its first step and n hops
abbrev pub tour_after : Exec → List ℕ → ℕ → State
tour_after x file n = hops (is_between tour_layout) (step (start x file nothing)) n

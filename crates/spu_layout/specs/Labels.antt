-- What labels stand for in a layout, and where calls and jumps lead.
use Rattle.std.specs.Prelude.{ℕ, zero, suc, ◌==◌, ◌&&◌, ◌||◌, List, if◌then◌else◌}
use Rattle.spu_word.specs.Bytes.{quad_of}
use Rattle.spu_lift.specs.declared.program.Label.{Label}
use Rattle.spu_lift.specs.declared.program.Label.TheVariants.{Fun, Place, Link}
use Rattle.spu_layout.specs.Layouts.{Layout}

-- the function of a label
abbrev pub label_function : Label → ℕ
label_function (Fun f) = f
label_function (Place f i) = f
label_function (Link f i) = f

-- the quad of a link to the address a in a region
abbrev pub link_by : Layout → ℕ → ℕ → List ℕ
link_by l zero a = quad_of a 0 0 0
link_by l (suc r) a = quad_of l.return_entry (suc r) a 0

-- the quad of a label
abbrev pub code : Layout → Label → List ℕ
code l (Fun f) = quad_of (l.entry f) 0 0 0
code l (Place f i) = quad_of (l.at f i) 0 0 0
code l (Link f i) = link_by l (l.region f) (l.at f i)

-- the address in word 0 of the quad
abbrev pub link_address : Layout → ℕ → ℕ → ℕ
link_address l zero a = a
link_address l (suc r) a = l.return_entry

abbrev pub address_of : Layout → Label → ℕ
address_of l (Fun f) = l.entry f
address_of l (Place f i) = l.at f i
address_of l (Link f i) = link_address l (l.region f) (l.at f i)

-- a call goes by the stub where the caller or the callee is in a region; a jump where the callee is in one that isn't its own
abbrev pub call_target : Layout → ℕ → ℕ → ℕ
call_target l f g = if (l.region f == 0) && (l.region g == 0) then l.at g 0 else l.entry g

abbrev pub jump_target : Layout → ℕ → ℕ → ℕ
jump_target l f g = if (l.region g == 0) || (l.region g == l.region f) then l.at g 0 else l.entry g

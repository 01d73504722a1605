-- Which source registers an instruction names, by its layout and the fields that must be zero: those are listed in the order rb, ra, rt.
-- SPU ISA 1.2, section 2.3.
use Rattle.std.specs.Prelude.{Bool, true, false, List, [], ◌∷◌}
use Rattle.spu_isa.specs.declared.operation.Layout.{Layout}
use Rattle.spu_isa.specs.declared.operation.Layout.TheVariants.{Rr, Rrr, Ri7, Ri10, HintA}
use Rattle.spu_isa.specs.declared.operation.Register.{Register}
use Rattle.spu_isa.specs.declared.operation.Register.TheVariants.{Ra, Rb}

abbrev pub has_ra : Layout → List Register → Bool
has_ra Rr (Rb ∷ Ra ∷ _) = false
has_ra Rr _ = true
has_ra Rrr _ = true
has_ra Ri7 _ = true
has_ra Ri10 _ = true
has_ra HintA _ = true
has_ra _ _ = false

abbrev pub has_rb : Layout → List Register → Bool
has_rb Rr [] = true
has_rb Rrr _ = true
has_rb _ _ = false

abbrev pub has_rc : Layout → Bool
has_rc Rrr = true
has_rc _ = false

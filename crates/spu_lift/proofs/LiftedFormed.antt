-- A lifted program is well formed.
use Rattle.std.proofs.Common.{◌≡◌, ◌≢◌, ℕ, zero, suc, ◌+◌, ◌*◌, ◌%◌, ◌<◌, ◌≤◌, true, List, [], ◌∷◌, length, map, Option, Some, None, slice_get, refl, sym, ap, subst, ◌∙◌, arith, lit<}
use Rattle.std.specs.Prelude.{All, filter, nat_lt}
use Rattle.std.specs.List.{AllByRecursion}
use Rattle.std.proofs.lemmas.Bool.{and_parts, ltb-true}
use Rattle.std.proofs.lemmas.List.{length-map}
use Rattle.std.proofs.lemmas.List.Elements.{All-filter, All-map, All-same, All-weaker, filter_passes, recursion_from_All}
use Rattle.spu_word.specs.declared.limits.TheConstants.{MAX_OBJECTS, MAX_SECTION_SIZE, QUAD_SIZE}
use Rattle.spu_elf.specs.declared.objects.Section.{Section}
use Rattle.spu_elf.specs.declared.objects.Object.{Object}
use Rattle.spu_elf.specs.WellFormed.{IsWellFormed as IsWellFormedObject}
use Rattle.spu_lift.specs.declared.program.CodeSection.{CodeSection}
use Rattle.spu_lift.specs.declared.program.Function.{Function}
use Rattle.spu_lift.specs.declared.program.Prog.{Prog}
use Rattle.spu_lift.specs.Places.{taken_in, taken_places}
use Rattle.spu_lift.specs.WellFormed.{IsRising, IsWellFormed}
use Rattle.spu_lift.specs.Tables.{all_sections, end_of, holds_code, holds_data, is_code}
use Rattle.spu_lift.specs.Lifted.{global_of}
use Rattle.spu_lift.specs.LiftFaults.{Lifted}
use Rattle.spu_lift.proofs.PlacedLemmas.{sections_few}
use Rattle.spu_lift.proofs.SectionNumbers.{count_of}
use Rattle.spu_lift.proofs.DataEnds.{IsSmall, end_low, whole_end}
use Rattle.spu_lift.proofs.LiftedCode.{IsLiftedFrom, callee, instruction_formed, taken_callee, taken_place}
use Rattle.spu_lift.proofs.LiftedData.{all_small, count_low, ear_formed, ears_are_global, few_extents, few_from, function_formed, functions_apart, global_formed, globals_distinct, part_formed, parts_in_order}

abbrev code_section : Section → CodeSection
code_section t = record { name = t.name; size = t.size }

pub lifted_formed : (os : List Object) (entry : List ℕ) (p : Prog) → length os ≤ MAX_OBJECTS → All IsWellFormedObject os → Lifted os entry p → IsWellFormed p
lifted_formed os entry p few formed lifted =
    let h : IsLiftedFrom os entry p = record { few = few; formed = formed; lifted = lifted } in
    let all : AllByRecursion IsWellFormedObject os = recursion_from_All IsWellFormedObject os formed in
    let sections = sections_few os all in
    let code : length p.code ≡ count_of holds_code (all_sections os) = ap length lifted.program.code ∙ length-map (filter holds_code (all_sections os)) code_section in
    let code_low = count_low holds_code (all_sections os) in
    let data_low = count_low holds_data (all_sections os) in
    let extents = few_extents os lifted.program.fs formed lifted.program.numbering.rising lifted.program.numbering.extents in
    let count = lifted.program.count in
    let globals = few_from (global_of os) 0 os all in
    let these = ap length lifted.program.globals in
    let small = all_small os entry p h in
    let end = end_low os small (omega (arith, data_low, sections, few)) in
    let data_end = lifted.program.data_end in
    record {
      functions = omega (arith, extents, count, few);
      sections = omega (arith, code, code_low, sections, few);
      small = All-same (λ (c : CodeSection). c.size ≤ MAX_SECTION_SIZE) p.code (map code_section (filter holds_code (all_sections os))) lifted.program.code
          (All-map (λ (c : CodeSection). c.size ≤ MAX_SECTION_SIZE) code_section (filter holds_code (all_sections os))
          (All-filter holds_code (λ (t : Section). t.size ≤ MAX_SECTION_SIZE) (all_sections os) (All-weaker IsSmall (λ (t : Section). t.size ≤ MAX_SECTION_SIZE) (λ t s. s.1) (all_sections os) small)));
      filled = All-same (λ (c : CodeSection). 1 ≤ c.size) p.code (map code_section (filter holds_code (all_sections os))) lifted.program.code
          (All-map (λ (c : CodeSection). 1 ≤ c.size) code_section (filter holds_code (all_sections os))
          (All-weaker (λ (t : Section). holds_code t ≡ true) (λ (t : Section). 1 ≤ t.size) some_code (filter holds_code (all_sections os)) (filter_passes holds_code (all_sections os))));
      few_globals = omega (arith, globals, these, few);
      start = lifted.program.start;
      entry = callee os entry p h p.entry lifted.program.extent lifted.program.entry;
      each = function_formed os entry p h;
      apart = functions_apart os entry p h;
      instructions = instruction_formed os entry p h;
      taken = taken_callee os entry p h;
      taken_rising = lifted.program.taken.rising;
      places = taken_place os entry p h;
      places_rising = λ f. rising_in f (slice_get p.functions f) refl;
      data_aligned = ap (λ n. n % QUAD_SIZE) lifted.program.data_end ∙ whole_end (end_of (all_sections os)) QUAD_SIZE (lit< tt);
      data_end = omega (arith, end, data_end);
      ordered = parts_in_order os entry p h;
      parts = part_formed os entry p h;
      globals = global_formed os entry p h;
      distinct = globals_distinct os entry p h;
      ears = ear_formed os entry p h;
      ears_are_global = ears_are_global os entry p h;
    }
  where
    some_code : (t : Section) → holds_code t ≡ true → 1 ≤ t.size
    some_code t is = let more = ltb-true 0 t.size (and_parts (is_code t.kind) (nat_lt 0 t.size) is).1 in omega (arith, more)

    rising_in : (f : ℕ) (o : Option Function) → slice_get p.functions f ≡ o → IsRising (taken_places p f)
    rising_in f None at = subst IsRising (ap taken_in (sym at)) tt
    rising_in f (Some g) at = subst IsRising (ap taken_in (sym at)) (lifted.program.places f g at).rising

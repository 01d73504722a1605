-- Statements as definitions see them: the labels in front, and what the statement does behind them.
use Rattle.std.specs.Prelude.{ℕ, ◌+◌, List, [], ◌∷◌, ◌++◌, map, Option, Some, None, option_map, Result, Ok, Err, ℤ}
use Rattle.std.specs.Borrow.{Bor}
use Rattle.spu_elf.specs.declared.objects.SecKind.{SecKind}
use Rattle.spu_elf.specs.declared.objects.SymKind.{SymKind}
use Rattle.spu_reloc.specs.declared.field.RelocKind.{RelocKind}
use Rattle.spu_reloc.specs.declared.field.RelocKind.TheVariants.{Addr32}
use Rattle.spu_reloc.specs.Fields.{number_of}
use Rattle.spu_asm.specs.declared.faults.AsmKind.{AsmKind}
use Rattle.spu_asm.specs.declared.operands.Target.{Target as CodeTarget}
use Rattle.spu_asm.specs.declared.statements.AddressValue.{AddressValue}
use Rattle.spu_asm.specs.declared.statements.Content.{Content}
use Rattle.spu_asm.specs.declared.statements.Instruction.{Instruction}
use Rattle.spu_asm.specs.declared.statements.Action.{Action}
use Rattle.spu_asm.specs.declared.statements.Action.TheVariants as action
use Rattle.spu_asm.specs.declared.statements.Statement.{Statement}
pub use Rattle.spu_asm.specs.Names.{Name}
use Rattle.spu_asm.specs.Operands.{Target, target_in}

-- A relocation that a statement makes: where its word begins among the statement's bytes, its number in the SPU ABI, the
-- symbol and the addend.
pub record Relocation : Type 0 where
  pub offset : ℕ
  pub number : ℕ
  pub name : Name
  pub addend : ℤ

abbrev pub moved : ℕ → List Relocation → List Relocation
moved at [] = []
moved at (r ∷ rs) = record r { offset = at + r.offset } ∷ moved at rs

-- what a statement does behind its labels
pub data Effect : Type 0 where
  nothing : Effect
  -- a word, the symbols in its operands, and its relocation where it has one
  instruction : ℕ → List Name → List Relocation → Effect
  -- bytes, and the relocations in them
  content : List ℕ → List Relocation → Effect
  -- so many zero bytes
  space : ℕ → Effect
  -- padding to the next multiple
  align : ℕ → Effect
  -- the section of this name goes on, which has this kind where it is new
  section : Name → SecKind → Effect
  exports : Name → Effect
  may_be_common : Name → Effect
  has_kind : Name → SymKind → Effect
  ends_here : Name → Effect
  has_size : Name → ℕ → Effect
  -- a symbol in `.bss` of this size at a multiple of this
  common : Name → ℕ → ℕ → Effect

pub record Stmt : Type 0 where
  pub line : ℕ
  pub labels : List Name
  -- what it does, or the least fault that its tokens have by themselves
  pub effect : Result Effect AsmKind

-- the relocation that a symbol makes in an instruction whose field has this kind; only data has `Addr32`
abbrev pub relocations_by : RelocKind → Option Target → List Relocation
relocations_by Addr32 t = []
relocations_by k None = []
relocations_by k (Some t) = record { offset = 0; number = number_of k; name = t.name; addend = t.addend } ∷ []

-- ---- the code's statements

abbrev pub listed : {A : Type 0} → Option A → List A
listed None = []
listed (Some x) = x ∷ []

abbrev pub target_name : CodeTarget → Name
target_name t = t.name.now

-- the symbols in an instruction's operands
abbrev pub instruction_names : Instruction → List Name
instruction_names c = map (λ (w : Bor (List ℕ)). w.now) (listed c.place) ++ map target_name (listed c.target)

abbrev pub instruction_of : Instruction → Effect
instruction_of c = instruction c.word (instruction_names c) (relocations_by c.kind (option_map target_in c.target))

-- an address among the values of a directive takes four bytes
abbrev pub address_relocation : AddressValue → Relocation
address_relocation a = record { offset = a.offset; number = number_of Addr32; name = a.name.now; addend = a.addend }

abbrev pub content_of : Content → Effect
content_of c = content c.bytes (map address_relocation c.addresses.items)

unfoldable pub effect_of : Action → Effect
effect_of action.Nothing = nothing
effect_of (action.Instruction c) = instruction_of c
effect_of (action.Data c) = content_of c
effect_of (action.Space n) = space n
effect_of (action.Align n) = align n
effect_of (action.Section name kind) = section name.now kind
effect_of (action.Global name) = exports name.now
effect_of (action.Local name) = may_be_common name.now
effect_of (action.Kind name kind) = has_kind name.now kind
effect_of (action.EndsHere name) = ends_here name.now
effect_of (action.Size name size) = has_size name.now size
effect_of (action.Common name size step) = common name.now size step

abbrev pub result_of : Result Action AsmKind → Result Effect AsmKind
result_of (Ok a) = Ok (effect_of a)
result_of (Err k) = Err k

abbrev pub stmt_of : Statement → Stmt
stmt_of s = record { line = s.line; labels = map (λ (w : Bor (List ℕ)). w.now) s.labels.items; effect = result_of s.action }

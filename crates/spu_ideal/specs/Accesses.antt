-- Loads and stores of the symbolic machine. They reach the data, and the stack from the frame of the running function on: what lies
-- below that may be another's, or not there at all.
use Rattle.std.specs.Prelude.{ℕ, ◌+◌, ◌-◌, ◌&&◌, ◌||◌, nat_le, nat_lt, if◌then◌else◌, Bool, true, false, List, [], ◌∷◌, Option, Some, None}
use Rattle.spu_word.specs.declared.limits.TheConstants.{DATA_START, QUAD_SIZE, STACK_TOP, STORE_SIZE}
use Rattle.spu_isa.specs.declared.operation.Op.{Op}
use Rattle.spu_isa.specs.declared.operation.Op.TheVariants as op
use Rattle.spu_isa.specs.declared.instruction.Inst.{Inst}
use Rattle.spu_exec.specs.Places.{quad_mask}
use Rattle.spu_lift.specs.declared.program.Operand.{Operand}
use Rattle.spu_lift.specs.declared.program.Operand.TheVariants as operand
use Rattle.spu_lift.specs.declared.program.Prog.{Prog}
use Rattle.spu_ideal.specs.declared.ending.Reason.TheVariants as reason
use Rattle.spu_lift.specs.declared.symbolic.SymByte.{SymByte}
use Rattle.spu_ideal.specs.Bytes.{sym_at, sixteen}
use Rattle.spu_ideal.specs.Tested.{can_address, symbolic_place}
use Rattle.spu_ideal.specs.declared.state.OpenCall.{OpenCall}
use Rattle.spu_ideal.specs.State.{Sym, outside, advances, sets}

-- the stack pointer at the entry of the running function
abbrev pub entry_pointer : List OpenCall → Option ℕ
entry_pointer [] = Some STACK_TOP
entry_pointer (c ∷ cs) = c.pointer

abbrev pub is_data : Prog → ℕ → ℕ → Bool
is_data p a n = nat_le DATA_START a && nat_le (a + n) p.data_end

-- n bytes from a lie above the frame of the running function
abbrev pub is_stack : Option ℕ → ℕ → ℕ → ℕ → Bool
is_stack None frame a n = false
is_stack (Some entry) frame a n = nat_le (entry - frame) a && nat_le (a + n) STORE_SIZE

abbrev pub is_allowed : Prog → (ℕ → ℕ) → Sym → ℕ → ℕ → Bool
is_allowed p frames s a n = is_data p a n || is_stack (entry_pointer s.calls) (frames s.f) a n

-- an instruction whose own field is relative to its place reaches nothing that has no address yet
abbrev pub is_relative : Op → Bool
is_relative op.Lqr = true
is_relative op.Stqr = true
is_relative _ = false

-- the address of a load or store, where it is known
abbrev pub address_by : Bool → Inst → List SymByte → List SymByte → Option ℕ
address_by true x a b = None
address_by false x a b = if can_address x a b then Some (symbolic_place x 0 a b) else None

abbrev pub address : Operand → Inst → Sym → Option ℕ
address (operand.Number n) x s = Some (quad_mask n)
address operand.Plain x s = address_by (is_relative x.op) x (s.regs x.ra) (s.regs x.rb)
address _ x s = None

abbrev pub loaded : ℕ → (ℕ → SymByte) → List SymByte
loaded a store = sixteen (λ k. store (a + k))

abbrev pub saved : ℕ → List SymByte → (ℕ → SymByte) → ℕ → SymByte
saved a quad store = λ k. if nat_le a k && nat_lt k (a + QUAD_SIZE) then sym_at quad (k - a) else store k

abbrev pub loads : Option ℕ → Prog → (ℕ → ℕ) → ℕ → Sym → Sym
loads None p frames t s = outside reason.NotNumber s
loads (Some a) p frames t s = if is_allowed p frames s a QUAD_SIZE then sets p t (loaded a s.store) s else outside reason.Store s

abbrev pub stores : Option ℕ → Prog → (ℕ → ℕ) → ℕ → Sym → Sym
stores None p frames t s = outside reason.NotNumber s
stores (Some a) p frames t s =
    if is_allowed p frames s a QUAD_SIZE then advances p s (record s { store = saved a (s.regs t) s.store }) else outside reason.Store s

-- Programs on which the symbolic machine is tried: for each kind of instruction, for transfers, and for each reason to leave.
use Rattle.std.specs.Prelude.{ℕ, ◌*◌, ◌==◌, if◌then◌else◌, false, true, List, [], ◌∷◌, length, codes, ℤ, pos, negsuc}
use Rattle.spu_word.specs.declared.limits.TheConstants.{DATA_START, WORD_SIZE}
use Rattle.spu_word.specs.declared.load.Inputs.{Inputs}
use Rattle.spu_isa.specs.declared.operation.Op.{Op}
use Rattle.spu_isa.specs.declared.operation.Op.TheVariants as op
use Rattle.spu_lift.specs.declared.program.Label.TheVariants.{Fun, Place}
use Rattle.spu_lift.specs.declared.program.Operand.{Operand}
use Rattle.spu_lift.specs.declared.program.Operand.TheVariants as operand
use Rattle.spu_lift.specs.declared.program.SymInst.{SymInst}
use Rattle.spu_lift.specs.declared.program.Function.{Function}
use Rattle.spu_lift.specs.declared.program.Prog.{Prog}
use Rattle.spu_lift.specs.StartCode.{start_code}

-- no mail and no areas
abbrev pub nothing : Inputs
nothing = record { image_ea = 0; mail = []; areas = [] }

-- an instruction with its own fields, and one that another thing stands for
abbrev pub with_fields : Op → ℕ → ℕ → ℕ → ℤ → SymInst
with_fields o rt ra rb imm = record { inst = record { op = o; rt = rt; ra = ra; rb = rb; rc = 0; imm = imm }; operand = operand.Plain }

abbrev pub with_operand : Op → ℕ → Operand → SymInst
with_operand o rt x = record { inst = record { op = o; rt = rt; ra = 0; rb = 0; rc = 0; imm = pos 0 }; operand = x }

abbrev pub load_immediate : ℕ → ℤ → SymInst
load_immediate rt n = with_fields op.Il rt 0 0 n

abbrev pub write_channel : ℕ → ℕ → SymInst
write_channel channel rt = with_fields op.Wrch rt channel 0 (pos 0)

abbrev pub read_channel : ℕ → ℕ → SymInst
read_channel rt channel = with_fields op.Rdch rt channel 0 (pos 0)

abbrev pub go_back : SymInst
go_back = with_fields op.Bi 0 0 0 (pos 0)

-- main, at the start of its section, with no place whose address is taken
abbrev pub main_function : List SymInst → Function
main_function code = record { name = codes "main"; global = true; section = 0; offset = 0; code = code; taken = [] }

-- a program of main alone, without data
abbrev pub of_main : List SymInst → Prog
of_main code = record {
  functions = start_code DATA_START 1 ∷ main_function code ∷ [];
  code = record { name = codes ".text"; size = WORD_SIZE * length code } ∷ [];
  parts = [];
  taken = [];
  entry = 1;
  ears = [];
  globals = [];
  data_end = DATA_START;
}

-- ---- one function

-- il $3,5; wrch 28,$3; bi $0
abbrev pub sends_five : Prog
sends_five = of_main (load_immediate 3 (pos 5) ∷ write_channel 28 3 ∷ go_back ∷ [])

-- or $4,$0,$0; or $0,$4,$4; bi $0
abbrev pub copies_link : Prog
copies_link = of_main (with_fields op.Or 4 0 0 (pos 0) ∷ with_fields op.Or 0 4 4 (pos 0) ∷ go_back ∷ [])

-- il $3,5; heqi $3,6; bi $0
abbrev pub compares : Prog
compares = of_main (load_immediate 3 (pos 5) ∷ with_fields op.Heqi 0 3 0 (pos 6) ∷ go_back ∷ [])

-- ila $3,.L; il $75,5; wrch 20,$75; bi $3; .L: wrch 28,$75; heqi $75,6; bi $0
abbrev pub turns_within : Prog
turns_within = record {
  functions = start_code 128 1 ∷ record (main_function (
      with_operand op.Ila 3 (operand.Address (Place 1 4)) ∷ load_immediate 75 (pos 5) ∷ write_channel 20 75 ∷ with_fields op.Bi 0 3 0 (pos 0)
      ∷ write_channel 28 75 ∷ with_fields op.Heqi 0 75 0 (pos 6) ∷ go_back ∷ [])) { taken = 4 ∷ [] } ∷ [];
  code = record { name = codes ".text"; size = 28 } ∷ [];
  parts = [];
  taken = [];
  entry = 1;
  ears = [];
  globals = [];
  data_end = 128;
}

-- ---- each kind of instruction

-- the address of `helper` stands in the data
-- main: stqd $0,1($1); ai $1,$1,-32; lqa $3,128; bisl $0,$3; brsl $0,helper; rchcnt $5,28; brz $5,.L; br .M; .L: stop 1;
-- .M: heqi $5,6; nop $0; ai $1,$1,32; lqd $0,1($1); wrch 28,$4; wrch 28,$5; br helper
-- helper: ai $4,$4,7; bi $0
abbrev pub tours : Prog
tours = record {
  functions = start_code 144 1
      ∷ main_function (
      with_fields op.Stqd 0 1 0 (pos 1) ∷ with_fields op.Ai 1 1 0 (negsuc 31) ∷ with_operand op.Lqa 3 (operand.Number 128) ∷ with_fields op.Bisl 0 3 0 (pos 0)
      ∷ with_operand op.Brsl 0 (operand.Call 2) ∷ with_fields op.Rchcnt 5 28 0 (pos 0) ∷ with_operand op.Brz 5 (operand.Branch 8) ∷ with_operand op.Br 0 (operand.Branch 9)
      ∷ with_fields op.Stop 0 0 0 (pos 1) ∷ with_fields op.Heqi 0 5 0 (pos 6) ∷ with_fields op.Nop 0 0 0 (pos 0) ∷ with_fields op.Ai 1 1 0 (pos 32)
      ∷ with_fields op.Lqd 0 1 0 (pos 1) ∷ write_channel 28 4 ∷ write_channel 28 5 ∷ with_operand op.Br 0 (operand.Jump 2) ∷ [])
      ∷ record {
        name = codes "helper";
        global = false;
        section = 0;
        offset = 64;
        code = with_fields op.Ai 4 4 0 (pos 7) ∷ go_back ∷ [];
        taken = [];
      }
      ∷ [];
  code = record { name = codes ".text"; size = 72 } ∷ [];
  parts = record { address = 128; size = 16; bytes = []; labels = record { offset = 0; label = Fun 2 } ∷ [] } ∷ [];
  taken = 2 ∷ [];
  entry = 1;
  ears = [];
  globals = [];
  data_end = 144;
}

-- main's frame has 32 bytes
abbrev pub tour_frames : ℕ → ℕ
tour_frames f = if f == 1 then 32 else 0

-- ---- transfers

-- an area of 16 bytes, the first of which are the word 0x01020304
abbrev pub one_area : Inputs
one_area = record { image_ea = 0; mail = 9 ∷ []; areas = record { name = codes "a"; ea = 4096; bytes = 1 ∷ 2 ∷ 3 ∷ 4 ∷ 0 ∷ 0 ∷ 0 ∷ 0 ∷ 0 ∷ 0 ∷ 0 ∷ 0 ∷ 0 ∷ 0 ∷ 0 ∷ 0 ∷ [] } ∷ [] }

-- il $3,128; il $4,0; il $5,4096; il $6,16; il $7,64; il $8,1; il $9,2; wrch 16,$3; wrch 17,$4; wrch 18,$5; wrch 19,$6; wrch 20,$4; wrch 21,$7;
-- rchcnt $10,21; wrch 22,$8; wrch 23,$9; rdch $11,24; lqa $12,128; rdch $13,29; wrch 28,$10; wrch 28,$11; wrch 28,$12; wrch 28,$13; bi $0
abbrev pub transfers : Prog
transfers = record (of_main (
    load_immediate 3 (pos 128) ∷ load_immediate 4 (pos 0) ∷ load_immediate 5 (pos 4096) ∷ load_immediate 6 (pos 16) ∷ load_immediate 7 (pos 64) ∷ load_immediate 8 (pos 1)
    ∷ load_immediate 9 (pos 2) ∷ write_channel 16 3 ∷ write_channel 17 4 ∷ write_channel 18 5 ∷ write_channel 19 6 ∷ write_channel 20 4 ∷ write_channel 21 7
    ∷ with_fields op.Rchcnt 10 21 0 (pos 0) ∷ write_channel 22 8 ∷ write_channel 23 9 ∷ read_channel 11 24 ∷ with_operand op.Lqa 12 (operand.Number 128)
    ∷ read_channel 13 29 ∷ write_channel 28 10 ∷ write_channel 28 11 ∷ write_channel 28 12 ∷ write_channel 28 13 ∷ go_back ∷ [])) {
      parts = record { address = 128; size = 16; bytes = []; labels = [] } ∷ [];
      data_end = 144;
    }

-- ---- ends

-- the link is no number: wrch 28,$0
abbrev pub sends_link : Prog
sends_link = of_main (write_channel 28 0 ∷ go_back ∷ [])

-- below the frame: stqd $3,-1($1)
abbrev pub stores_below : Prog
stores_below = of_main (with_fields op.Stqd 3 1 0 (negsuc 0) ∷ go_back ∷ [])

-- no command: wrch 16,$3 to wrch 20,$3; wrch 21,$3
abbrev pub commands_nothing : Prog
commands_nothing = of_main (write_channel 16 3 ∷ write_channel 17 3 ∷ write_channel 18 3 ∷ write_channel 19 3 ∷ write_channel 20 3 ∷ write_channel 21 3 ∷ go_back ∷ [])

-- nop
abbrev pub runs_out : Prog
runs_out = of_main (with_fields op.Nop 0 0 0 (pos 0) ∷ [])

-- il $0,160; bi $0
abbrev pub loses_link : Prog
loses_link = of_main (load_immediate 0 (pos 160) ∷ go_back ∷ [])

-- il $4,1; or $0,$0,$4; bi $0
abbrev pub spoils_link : Prog
spoils_link = of_main (load_immediate 4 (pos 1) ∷ with_fields op.Or 0 0 4 (pos 0) ∷ go_back ∷ [])

-- the update isn't known after a call: rdch $3,24
abbrev pub reads_status : Prog
reads_status = of_main (read_channel 3 24 ∷ go_back ∷ [])

-- heqi $3,0
abbrev pub halts : Prog
halts = of_main (with_fields op.Heqi 0 3 0 (pos 0) ∷ go_back ∷ [])

-- rdch $3,1
abbrev pub misuses_channel : Prog
misuses_channel = of_main (read_channel 3 1 ∷ go_back ∷ [])

-- rdch $3,29
abbrev pub starves : Prog
starves = of_main (read_channel 3 29 ∷ go_back ∷ [])

-- More programs on which the symbolic machine is tried: one that stays inside with a put, a branch that is taken, a jump by an address and
-- a conditional return, and small ones that leave.
use Rattle.std.specs.Prelude.{ℕ, ◌*◌, ◌+◌, false, List, [], ◌∷◌, length, replicate, codes, pos, negsuc}
use Rattle.spu_word.specs.declared.load.Area.{Area}
use Rattle.spu_word.specs.declared.load.Inputs.{Inputs}
use Rattle.spu_isa.specs.declared.operation.Op.TheVariants as op
use Rattle.spu_lift.specs.declared.program.Label.TheVariants.{Fun}
use Rattle.spu_lift.specs.declared.program.Operand.TheVariants as operand
use Rattle.spu_lift.specs.declared.program.SymInst.{SymInst}
use Rattle.spu_lift.specs.declared.program.Function.{Function}
use Rattle.spu_lift.specs.declared.program.Prog.{Prog}
use Rattle.spu_lift.specs.StartCode.{start_code}
use Rattle.spu_ideal.specs.Samples.{main_function, of_main, with_fields, with_operand, load_immediate, write_channel, read_channel, go_back}

-- it returns where register 10 is zero: biz $10,$0
abbrev pub helper : ℕ → Function
helper offset = record { name = codes "helper"; global = false; section = 0; offset = offset; code = with_fields op.Biz 10 0 0 (pos 0) ∷ go_back ∷ []; taken = [] }

-- a program of main and helper, with 16 bytes of data that are zero
abbrev pub with_helper : List SymInst → Prog
with_helper code = record {
  functions = start_code 144 1 ∷ main_function code ∷ helper (4 * length code) ∷ [];
  code = record { name = codes ".text"; size = 4 * length code + 8 } ∷ [];
  parts = record { address = 128; size = 16; bytes = []; labels = [] } ∷ [];
  taken = 2 ∷ [];
  entry = 1;
  ears = [];
  globals = [];
  data_end = 144;
}

-- ---- inside

-- il $4,7; stqa $4,128; lqr $5,128; a put of the data with tag 1 to the area at 4096; wrch 22,2; wrch 23,1; rchcnt $11,24; rdch $12,24;
-- rdch $13,12; rchcnt $14,29; brnz $9,.L; stop 1; .L: $5, $11, $12, $13 and $14 to the outbound mailbox; ila $15,helper; bi $15
abbrev pub visits : Prog
visits = with_helper (load_immediate 4 (pos 7) ∷ with_operand op.Stqa 4 (operand.Number 128) ∷ with_operand op.Lqr 5 (operand.Number 128) ∷ load_immediate 3 (pos 128) ∷ load_immediate 6 (pos 4096) ∷ load_immediate 7 (pos 16) ∷ load_immediate 8 (pos 32) ∷ load_immediate 9 (pos 2) ∷ load_immediate 16 (pos 1) ∷ write_channel 16 3 ∷ write_channel 17 10 ∷ write_channel 18 6 ∷ write_channel 19 7 ∷ write_channel 20 16 ∷ write_channel 21 8 ∷ write_channel 22 9 ∷ write_channel 23 16 ∷ with_fields op.Rchcnt 11 24 0 (pos 0) ∷ read_channel 12 24 ∷ read_channel 13 12 ∷ with_fields op.Rchcnt 14 29 0 (pos 0) ∷ with_operand op.Brnz 9 (operand.Branch 23) ∷ with_fields op.Stop 0 0 0 (pos 1) ∷ write_channel 28 5 ∷ write_channel 28 11 ∷ write_channel 28 12 ∷ write_channel 28 13 ∷ write_channel 28 14 ∷ with_operand op.Ila 15 (operand.Address (Fun 2)) ∷ with_fields op.Bi 0 15 0 (pos 0) ∷ [])

-- its frame of 32 bytes lies below the entry pointer: ai $1,$1,-32; il $3,7; stqd $3,0($1); lqd $4,0($1); wrch 28,$4; ai $1,$1,32; bi $0
abbrev pub keeps_frame : Prog
keeps_frame = of_main (with_fields op.Ai 1 1 0 (negsuc 31) ∷ load_immediate 3 (pos 7) ∷ with_fields op.Stqd 3 1 0 (pos 0) ∷ with_fields op.Lqd 4 1 0 (pos 0) ∷ write_channel 28 4 ∷ with_fields op.Ai 1 1 0 (pos 32) ∷ go_back ∷ [])

-- the quadword of a named area: lqa $3,128; rotqbyi $4,$3,4; rotqbyi $5,$3,8; $3, $4 and $5 to the outbound mailbox
abbrev pub finds_area : Prog
finds_area = record (of_main (with_operand op.Lqa 3 (operand.Number 128) ∷ with_fields op.Rotqbyi 4 3 0 (pos 4) ∷ with_fields op.Rotqbyi 5 3 0 (pos 8) ∷ write_channel 28 3 ∷ write_channel 28 4 ∷ write_channel 28 5 ∷ go_back ∷ [])) {
  parts = record { address = 128; size = 16; bytes = []; labels = [] } ∷ [];
  ears = record { name = codes "a"; address = 128 } ∷ [];
  globals = record { name = codes "_EAR_a"; address = 128; size = 16 } ∷ [];
  data_end = 144;
}

-- a get with tag 0; wrch 22,3; wrch 23,0: nothing lands, and tag 1 alone is idle
abbrev pub asks_now : Prog
asks_now = with_helper (load_immediate 3 (pos 128) ∷ load_immediate 6 (pos 4096) ∷ load_immediate 7 (pos 16) ∷ load_immediate 8 (pos 64) ∷ load_immediate 9 (pos 3) ∷ write_channel 16 3 ∷ write_channel 17 10 ∷ write_channel 18 6 ∷ write_channel 19 7 ∷ write_channel 20 10 ∷ write_channel 21 8 ∷ write_channel 22 9 ∷ write_channel 23 10 ∷ read_channel 11 24 ∷ with_fields op.Rchcnt 12 21 0 (pos 0) ∷ with_operand op.Lqa 13 (operand.Number 128) ∷ write_channel 28 11 ∷ write_channel 28 12 ∷ write_channel 28 13 ∷ go_back ∷ [])

-- ---- areas that a run is given

-- an area of zeros, by its name, its address and its size
abbrev pub zeros : List ℕ → ℕ → ℕ → Area
zeros name ea size = record { name = name; ea = ea; bytes = replicate size 0 }

abbrev pub with_areas : List Area → Inputs
with_areas areas = record { image_ea = 0; mail = []; areas = areas }

-- ---- outside

-- brz $0,.
abbrev pub tests_link : Prog
tests_link = of_main (with_operand op.Brz 0 (operand.Branch 0) ∷ [])

-- heqi $0,0
abbrev pub halts_by_link : Prog
halts_by_link = of_main (with_fields op.Heqi 0 0 0 (pos 0) ∷ go_back ∷ [])

-- lqd $3,0($0)
abbrev pub loads_by_link : Prog
loads_by_link = of_main (with_fields op.Lqd 3 0 0 (pos 0) ∷ go_back ∷ [])

-- wrch 16,$0
abbrev pub describes_by_link : Prog
describes_by_link = of_main (write_channel 16 0 ∷ go_back ∷ [])

-- no channel of transfers is known after a call: wrch 21,$3
abbrev pub commands_forgotten : Prog
commands_forgotten = of_main (write_channel 21 3 ∷ go_back ∷ [])

-- rchcnt $3,24
abbrev pub counts_status : Prog
counts_status = of_main (with_fields op.Rchcnt 3 24 0 (pos 0) ∷ go_back ∷ [])

-- no function is at the address: bisl $0,$3
abbrev pub calls_number : Prog
calls_number = of_main (with_fields op.Bisl 0 3 0 (pos 0) ∷ go_back ∷ [])

-- a get to address 0, which is no data
abbrev pub gets_below : Prog
gets_below = of_main (load_immediate 7 (pos 16) ∷ load_immediate 8 (pos 64) ∷ write_channel 16 3 ∷ write_channel 17 10 ∷ write_channel 18 6 ∷ write_channel 19 7 ∷ write_channel 20 10 ∷ write_channel 21 8 ∷ go_back ∷ [])

-- a get from address 0, where no area is
abbrev pub gets_elsewhere : Prog
gets_elsewhere = with_helper (load_immediate 3 (pos 128) ∷ load_immediate 7 (pos 16) ∷ load_immediate 8 (pos 64) ∷ write_channel 16 3 ∷ write_channel 17 10 ∷ write_channel 18 6 ∷ write_channel 19 7 ∷ write_channel 20 10 ∷ write_channel 21 8 ∷ go_back ∷ [])

-- thirteen gets
abbrev pub fills_queue : Prog
fills_queue = with_helper (load_immediate 3 (pos 128) ∷ load_immediate 6 (pos 4096) ∷ load_immediate 7 (pos 16) ∷ load_immediate 8 (pos 64) ∷ write_channel 16 3 ∷ write_channel 17 10 ∷ write_channel 18 6 ∷ write_channel 19 7 ∷ write_channel 20 10 ∷ write_channel 21 8 ∷ write_channel 21 8 ∷ write_channel 21 8 ∷ write_channel 21 8 ∷ write_channel 21 8 ∷ write_channel 21 8 ∷ write_channel 21 8 ∷ write_channel 21 8 ∷ write_channel 21 8 ∷ write_channel 21 8 ∷ write_channel 21 8 ∷ write_channel 21 8 ∷ write_channel 21 8 ∷ go_back ∷ [])

-- the link is stored and put: its bytes are no numbers as it lands
abbrev pub puts_link : Prog
puts_link = with_helper (with_operand op.Stqa 0 (operand.Number 128) ∷ load_immediate 3 (pos 128) ∷ load_immediate 6 (pos 4096) ∷ load_immediate 7 (pos 16) ∷ load_immediate 8 (pos 32) ∷ load_immediate 9 (pos 1) ∷ load_immediate 16 (pos 2) ∷ write_channel 16 3 ∷ write_channel 17 10 ∷ write_channel 18 6 ∷ write_channel 19 7 ∷ write_channel 20 10 ∷ write_channel 21 8 ∷ write_channel 22 9 ∷ write_channel 23 16 ∷ read_channel 11 24 ∷ go_back ∷ [])

-- il $0,1; br helper
abbrev pub jumps_without_link : Prog
jumps_without_link = with_helper (load_immediate 0 (pos 1) ∷ with_operand op.Br 0 (operand.Jump 2) ∷ [])

-- a get with the loader's tag
abbrev pub takes_tag : Prog
takes_tag = with_helper (load_immediate 3 (pos 128) ∷ load_immediate 6 (pos 4096) ∷ load_immediate 7 (pos 16) ∷ load_immediate 8 (pos 64) ∷ load_immediate 9 (pos 31) ∷ write_channel 16 3 ∷ write_channel 17 10 ∷ write_channel 18 6 ∷ write_channel 19 7 ∷ write_channel 20 9 ∷ write_channel 21 8 ∷ go_back ∷ [])

-- stqd $3,0($0)
abbrev pub stores_by_link : Prog
stores_by_link = of_main (with_fields op.Stqd 3 0 0 (pos 0) ∷ go_back ∷ [])

-- behind the data: lqa $3,128
abbrev pub loads_behind : Prog
loads_behind = of_main (with_operand op.Lqa 3 (operand.Number 128) ∷ go_back ∷ [])

-- no function is at the address: bi $3
abbrev pub jumps_by_number : Prog
jumps_by_number = of_main (with_fields op.Bi 0 3 0 (pos 0) ∷ [])

-- the last place, where a count of the status would be: rchcnt $3,24
abbrev pub counts_last : Prog
counts_last = of_main (with_fields op.Rchcnt 3 24 0 (pos 0) ∷ [])

-- ---- ends against the rules of channels

-- an update is answered once: il $8,2; wrch 23,$8; rdch $11,24; rdch $11,24
abbrev pub asks_twice : Prog
asks_twice = of_main (load_immediate 8 (pos 2) ∷ write_channel 23 8 ∷ read_channel 11 24 ∷ read_channel 11 24 ∷ go_back ∷ [])

-- rchcnt $3,1
abbrev pub counts_wrongly : Prog
counts_wrongly = of_main (with_fields op.Rchcnt 3 1 0 (pos 0) ∷ go_back ∷ [])

-- no update is 3: il $3,3; wrch 23,$3
abbrev pub updates_wrongly : Prog
updates_wrongly = of_main (load_immediate 3 (pos 3) ∷ write_channel 23 3 ∷ go_back ∷ [])

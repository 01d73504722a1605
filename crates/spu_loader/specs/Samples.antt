-- Two small overlay images, at which all that the loader asks for holds together. The words of their stubs and loaders are any that are
-- the instructions of these.
use Rattle.std.specs.Prelude.{ℕ, ◌+◌, ◌-◌, ◌*◌, ◌^◌, ◌≤◌, ◌==◌, if◌then◌else◌, List, [], ◌∷◌, ◌++◌, length, take, drop}
use Rattle.std.specs.List.{flat_map}
use Rattle.spu_word.specs.declared.limits.TheConstants.{MAX_TRANSFER_SIZE}
use Rattle.spu_word.specs.Bytes.{be_digits, quad_of}
use Rattle.spu_exec.specs.Transfers.{Stretch}
use Rattle.spu_isa.specs.declared.instruction.Inst.{Inst}
use Rattle.spu_ls.specs.Stores.{Store, placed}
use Rattle.spu_ls.specs.Machine.{State}
use Rattle.spu_ls.specs.Start.{started}
use Rattle.spu_ls.specs.Sound.{AreWords}
use Rattle.spu_word.specs.declared.conventions.TheConstants.{LINK_REGISTER}
use Rattle.spu_loader.specs.Forms.{AreWordsOf}
use Rattle.spu_loader.specs.Code.{loader_code, stub_code}
use Rattle.spu_loader.specs.Overlays.{Overlay, IsLaid, IsReady, IsStub, IsLink, link_into}

-- words of 32 bits that are these instructions
pub record AreEncoded (code : List Inst) (words : List ℕ) : Type 0 where
  pub words_are : AreWordsOf code words
  pub small : AreWords words

-- the store with words at an address
abbrev pub words_placed : ℕ → List ℕ → Store → Store
words_placed at words m = placed at (flat_map be_digits words) m

-- a start at a place, with a link in the link register
abbrev pub state_at : ℕ → List ℕ → Store → Stretch → State
state_at pc link m image = record (started m pc image [] []) { regs = λ r. if r == LINK_REGISTER then link else quad_of 0 0 0 0 }

-- ---- One buffer of 16,384 bytes and one region of 16, not loaded yet. Its stub stands at 208, the loader at 224, its quadwords from 496
-- on, the table at 560, the buffer at 640. It is called from 172, in the root.

abbrev pub first : Overlay
first = record { loader = record { base = 224; buffer = 640; shift = 14; buffers = 1; table = 560 }; regions = 1; size = λ r. 16; offset = λ r. 640 }

abbrev pub first_words : List ℕ → List ℕ → List ℕ
first_words stub loader =
    stub ++ (loader ++ (0 ∷ 0 ∷ 0 ∷ 0 ∷ 0 ∷ 0 ∷ 476 ∷ 0 ∷ 0 ∷ 0 ∷ 0 ∷ 0 ∷ 0 ∷ 0 ∷ MAX_TRANSFER_SIZE ∷ (2 ^ 32 - MAX_TRANSFER_SIZE) ∷ MAX_TRANSFER_SIZE ∷ 0
    ∷ 0 ∷ 0 ∷ 0 ∷ 0 ∷ 640 ∷ 16 ∷ 640 ∷ 1 ∷ []))

abbrev pub first_state : List ℕ → List ℕ → List ℕ → State
first_state stub loader file = state_at 208 (quad_of 176 0 0 0) (words_placed 208 (first_words stub loader) (λ k. 0)) (record { ea = 0; bytes = file })

abbrev pub FirstIsReady : Type 0
FirstIsReady = (stub loader file : List ℕ) → AreEncoded (stub_code 224 208 1 640) stub → AreEncoded (loader_code first.loader) loader → 656 ≤ length file → length file ≤ 2 ^ 32
    → IsLaid first × IsReady first (first_state stub loader file) × IsStub first 208 1 640 (first_state stub loader file).store
    × IsLink first (first_state stub loader file) (quad_of 176 0 0 0)

-- ---- Two buffers of 1,024 bytes and two regions of 16, of which the second is mapped. The stub of the first region stands at 208, the
-- loader at 224, its quadwords from 496 on, the table at 576, the buffers at 640 and 1664. The call comes from 1664, in the second region.

abbrev pub second : Overlay
second = record { loader = record { base = 224; buffer = 640; shift = 10; buffers = 2; table = 576 }; regions = 2; size = λ r. 16; offset = λ r. 624 + 16 * r }

abbrev pub second_words : List ℕ → List ℕ → List ℕ
second_words stub loader =
    stub ++ (loader ++ (0 ∷ 0 ∷ 0 ∷ 0 ∷ 0 ∷ 0 ∷ 2 ∷ 0 ∷ 0 ∷ 0 ∷ 476 ∷ 0 ∷ 0 ∷ 0 ∷ 1 ∷ 128 ∷ 0 ∷ 0 ∷ MAX_TRANSFER_SIZE ∷ (2 ^ 32 - MAX_TRANSFER_SIZE) ∷ MAX_TRANSFER_SIZE ∷ 0
    ∷ 0 ∷ 0 ∷ 0 ∷ 0 ∷ 640 ∷ 16 ∷ 640 ∷ 1 ∷ 1664 ∷ 16 ∷ 656 ∷ 2 ∷ []))

abbrev pub second_store : List ℕ → List ℕ → List ℕ → Store
second_store stub loader file = words_placed 208 (second_words stub loader) (placed 1664 (take 16 (drop 656 file)) (λ k. 0))

-- at the stub, or at the return entry, with this link
abbrev pub second_state : ℕ → List ℕ → List ℕ → List ℕ → List ℕ → State
second_state pc link stub loader file = state_at pc link (second_store stub loader file) (record { ea = 2 ^ 32 + 128; bytes = file })

abbrev pub SecondIsReady : Type 0
SecondIsReady = (stub loader file : List ℕ) → AreEncoded (stub_code 224 208 1 640) stub → AreEncoded (loader_code second.loader) loader → 672 ≤ length file → length file ≤ 2 ^ 32
    → IsLaid second × IsReady second (second_state 208 (quad_of 1668 0 0 0) stub loader file) × IsStub second 208 1 640 (second_store stub loader file)
    × IsLink second (second_state 208 (quad_of 1668 0 0 0) stub loader file) (link_into second 2 1668)
    × IsReady second (second_state 476 (link_into second 2 1668) stub loader file)

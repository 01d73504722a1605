-- Transfers between the local store and effective memory: the commands, what they say, and which can be carried out. Cell Broadband Engine
-- Architecture, "MFC commands"; that a command is refused whose bytes lie in no single area is this project's own rule.
use Rattle.std.specs.Prelude.{ℕ, ◌+◌, ◌*◌, ◌%◌, ◌^◌, ◌==◌, ◌||◌, ◌&&◌, nat_lt, nat_le, min, if◌then◌else◌, Bool, List, ◌∷◌, length, map, Option, Some, None}
use Rattle.std.specs.List.{list_any}
use Rattle.spu_word.specs.declared.limits.TheConstants.{MAX_TRANSFER_SIZE, QUAD_SIZE, STORE_SIZE}
use Rattle.spu_word.specs.declared.load.Area.{Area}
use Rattle.spu_exec.specs.declared.channels.TheConstants.{MFC_EAH, MFC_EAL, MFC_GET, MFC_GETB, MFC_GETF, MFC_LSA, MFC_PUT, MFC_PUTB, MFC_PUTF, MFC_SIZE, MFC_TAG_ID, TAG_COUNT}
use Rattle.spu_exec.specs.declared.transfers.Form.{Form}
use Rattle.spu_exec.specs.declared.transfers.Form.TheVariants.{Put, Get}
use Rattle.spu_exec.specs.declared.transfers.Transfer.{Transfer}

-- bytes that lie one after another in effective memory, from an address on
pub record Stretch : Type 0 where
  pub ea : ℕ
  pub bytes : List ℕ

abbrev pub stretch_of : Area → Stretch
stretch_of a = record { ea = a.ea; bytes = a.bytes }

-- which way the transfer of a command word goes
abbrev pub form_of : ℕ → Option Form
form_of word =
    if word == MFC_PUT || word == MFC_PUTB || word == MFC_PUTF then Some Put
    else (if word == MFC_GET || word == MFC_GETB || word == MFC_GETF then Some Get else None)

-- the transfer that the channels describe
abbrev pub described : Form → (ℕ → ℕ) → Transfer
described form channels = record {
  form = form;
  local = channels MFC_LSA;
  ea = channels MFC_EAH * 2 ^ 32 + channels MFC_EAL;
  size = channels MFC_SIZE;
  tag = channels MFC_TAG_ID;
}

-- the sizes of transfers
abbrev pub is_size : ℕ → Bool
is_size n = n == 1 || n == 2 || n == 4 || n == 8 || (n % QUAD_SIZE == 0 && (nat_le QUAD_SIZE n && nat_le n MAX_TRANSFER_SIZE))

-- Whether a transfer is right but for where its effective addresses lie: its size and tag, the low four bits of both addresses, the
-- alignment and the end of its bytes in the local store.
abbrev pub is_shaped : Transfer → Bool
is_shaped t =
    is_size t.size && (nat_lt t.tag TAG_COUNT && ((t.local % QUAD_SIZE == t.ea % QUAD_SIZE)
    && ((t.local % min t.size QUAD_SIZE == 0) && nat_le (t.local + t.size) STORE_SIZE)))

-- all bytes of a range lie in a stretch
abbrev pub holds_range : ℕ → ℕ → Stretch → Bool
holds_range ea size x = nat_le x.ea ea && nat_le (ea + size) (x.ea + length x.bytes)

-- and in one of them
abbrev pub some_holds : ℕ → ℕ → List Stretch → Bool
some_holds ea size xs = list_any (λ (x : Stretch). holds_range ea size x) xs

-- what a form can reach: the image is only read
abbrev pub reached : Form → Stretch → List Area → List Stretch
reached Put image areas = map stretch_of areas
reached Get image areas = image ∷ map stretch_of areas

-- whether a transfer can be carried out
abbrev pub is_taken : Stretch → List Area → Transfer → Bool
is_taken image areas t = is_shaped t && some_holds t.ea t.size (reached t.form image areas)

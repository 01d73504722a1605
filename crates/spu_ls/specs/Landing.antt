-- What a transfer does as it lands: a PUT copies bytes of the local store into effective memory, a GET copies bytes of effective memory
-- into the local store, both as they are at that moment. Cell Broadband Engine Architecture, MFC commands.
use Rattle.std.specs.Prelude.{List, [], ◌∷◌}
use Rattle.spu_word.specs.declared.load.Area.{Area}
use Rattle.spu_exec.specs.declared.transfers.Form.{Form}
use Rattle.spu_exec.specs.declared.transfers.Form.TheVariants.{Put, Get}
use Rattle.spu_exec.specs.declared.transfers.Transfer.{Transfer}
use Rattle.spu_exec.specs.Transfers.{Stretch, reached}
use Rattle.spu_exec.specs.Areas.{bytes_at, written}
use Rattle.spu_ls.specs.Stores.{Store, bytes_from, placed}

-- what transfers read and write
pub record Memory : Type 0 where
  pub store : Store
  pub areas : List Area

abbrev pub land_by : Form → Stretch → Transfer → Memory → Memory
land_by Put image t m = record m { areas = written t.ea (bytes_from m.store t.local t.size) m.areas }
land_by Get image t m = record m { store = placed t.local (bytes_at (reached Get image m.areas) t.ea t.size) m.store }

-- transfers land one after another
unfoldable pub land : Stretch → List Transfer → Memory → Memory
land image [] m = m
land image (t ∷ ts) m = land image ts (land_by t.form image t m)

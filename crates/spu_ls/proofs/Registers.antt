-- Registers of which one is written.
use Rattle.std.proofs.Common.{◌≡◌, ◌≢◌, ℕ, ◌<◌, List, [], length, get_or, refl, ap, ap₂, ◌∙◌, arith, get_or-set_other}
use Rattle.std.specs.Prelude.{◌==◌}
use Rattle.std.proofs.Math.ListN.{set}
use Rattle.std.proofs.Math.Path.{fun_ext}
use Rattle.std.proofs.lemmas.Bool.{cond_both}
use Rattle.std.proofs.lemmas.Bool.Decides.{nat_tests}
use Rattle.std.proofs.lemmas.Grind.{get_or-set_at}
use Rattle.std.proofs.lemmas.List.{get_or_default}
use Rattle.spu_word.specs.declared.big_endian.Quad.{Quad}
use Rattle.spu_isa.specs.declared.instruction.Inst.{Inst}
use Rattle.spu_exec.specs.Values.{value}
use Rattle.spu_ls.specs.Machine.{put}
use Rattle.spu_ls.specs.View.{regs_of}

abbrev no_quad : Quad
no_quad = record { 0 = [] }

pub registers_set : (quads : List Quad) (r : ℕ) (q : Quad) → r < length quads → regs_of (set quads r q) ≡ put r q.0 (regs_of quads)
registers_set quads r q lt = fun_ext (λ k.
    cond_both (k == r) q.0 (get_or quads k no_quad).0 (λ v. (get_or (set quads r q) k no_quad).0 ≡ v)
    (λ is. let e : k ≡ r = grind (arith, nat_tests) in ap (λ (p : Quad). p.0) (get_or-set_at quads r k q no_quad e lt))
    (λ is. let ne : k ≢ r = grind (arith, nat_tests) in ap (λ (p : Quad). p.0) (rw get_or-set_other refl)))

-- the value of an instruction, whose quads are those of its registers
pub value_at : (x : Inst) (quads : List Quad) (a b c t : Quad) (d : Quad) → x.rt < length quads → a.0 ≡ regs_of quads x.ra → b.0 ≡ regs_of quads x.rb → c.0 ≡ regs_of quads x.rc → t ≡ get_or quads x.rt d
    → value x a.0 b.0 c.0 t.0 ≡ value x (regs_of quads x.ra) (regs_of quads x.rb) (regs_of quads x.rc) (regs_of quads x.rt)
value_at x quads a b c t d lt p q r s =
    let e : t.0 ≡ regs_of quads x.rt = ap (λ (u : Quad). u.0) (s ∙ get_or_default quads x.rt d no_quad lt) in
    ap₂ (λ (m n : List ℕ). value x m n c.0 t.0) p q ∙ ap₂ (λ (m n : List ℕ). value x (regs_of quads x.ra) (regs_of quads x.rb) m n) r e

use Rattle.std.proofs.Common.{◌≡◌, length, arith}
use Rattle.spu_cesof.specs.Embedding.{embedding}
use Rattle.spu_cesof.proofs.Written.{few_headers, size_is}
use Rattle.spu_cesof.proofs.embedding.spelled.Goals as goal

pub overflow_cast-result : goal.overflow_cast-result
overflow_cast-result c =
    let e : c.object_len-size.result ≡ length (embedding c.args.name.now c.args.names.now c.args.file.now) = size_is _ c.in_ok-o.o c.args.name.now c.args.names.now c.args.file.now c.in_ok-o.ensures c.object_len-size.ensures in
    omega (arith, c.requires.short)

pub returns-then-size-clause-size : goal.returns-then-size-clause-size
returns-then-size-clause-size c =
    let e : c.object_len-size.result ≡ length (embedding c.args.name.now c.args.names.now c.args.file.now) = size_is _ c.in_ok-o.o c.args.name.now c.args.names.now c.args.file.now c.in_ok-o.ensures c.object_len-size.ensures in
    (omega arith, e)

pub spelled_from-requires-clause-few : goal.spelled_from-requires-clause-few
spelled_from-requires-clause-few c = few_headers c.in_ok-o.o c.args.name.now c.args.names.now c.args.file.now c.in_ok-o.ensures

pub returns-clause-size : goal.returns-clause-size
returns-clause-size c =
    let e : c.object_len-size.result ≡ length (embedding c.args.name.now c.args.names.now c.args.file.now) = size_is _ c.in_ok-o.o c.args.name.now c.args.names.now c.args.file.now c.in_ok-o.ensures c.object_len-size.ensures in
    omega arith

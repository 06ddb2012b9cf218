use Rattle.std.proofs.Common.{◌≡◌, take, codes, arith, rules}
use Rattle.fp_stream.proofs.HeadBytes.{head_read}
use Rattle.fp_stream.proofs.head.head_of.Goals as goal

pub returns-then-size-gt-MOST_BODY-clause-fault : goal.returns-then-size-gt-MOST_BODY-clause-fault
returns-then-size-gt-MOST_BODY-clause-fault c =
    let magic : take 4 c.args.bytes.now ≡ codes "SNP1" = search rules in
    record {
      revision = c.revision_in-revision.result;
      size = c.size_in-size.result;
      fits = omega arith;
      within = omega arith;
      is = head_read c.args.bytes.now c.revision_in-revision.result c.size_in-size.result c.requires
          (λ i. omega (arith, c.type_inv.bytes i)) magic c.revision_in-revision.ensures c.size_in-size.ensures;
      long = omega arith;
    }

pub returns-then-not-is_behind-clause-fault : goal.returns-then-not-is_behind-clause-fault
returns-then-not-is_behind-clause-fault c =
    let magic : take 4 c.args.bytes.now ≡ codes "SNP1" = search rules in
    record {
      revision = c.revision_in-revision.result;
      size = c.size_in-size.result;
      fits = omega arith;
      short = omega arith;
      is = head_read c.args.bytes.now c.revision_in-revision.result c.size_in-size.result c.requires
          (λ i. omega (arith, c.type_inv.bytes i)) magic c.revision_in-revision.ensures c.size_in-size.ensures;
      old = λ newer. let yes = c.is_behind.ensures.1 newer in let no = c.if-not-is_behind.true in absurd cc;
    }

pub returns-clause-is : goal.returns-clause-is
returns-clause-is c =
    let magic : take 4 c.args.bytes.now ≡ codes "SNP1" = search rules in
    head_read c.args.bytes.now c.revision_in-revision.result c.size_in-size.result c.requires
    (λ i. omega (arith, c.type_inv.bytes i)) magic c.revision_in-revision.ensures c.size_in-size.ensures

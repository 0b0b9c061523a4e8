use Rattle.pfd_conf.proofs.checking.take_noting.Goals as goal

pub returns-in-Err-clause-refused : goal.returns-in-Err-clause-refused
returns-in-Err-clause-refused g c =
    let taken = c.in_ok-taken.taken in (
      taken.conf,
      record {
        files = taken.files;
        read = c.in_ok-taken.ensures.read;
        means = rw c.as_bytes.ensures.value at
            c.in_ok-taken.ensures.taken;
      },
    )

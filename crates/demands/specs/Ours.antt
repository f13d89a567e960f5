-- Our kernel: what it may do is what it promises.
use Rattle.std.specs.Prelude.{refl}
use Rattle.model.specs.Sequence.{outcome_of}
use Rattle.demands.specs.Promises.{Promised}
use Rattle.demands.specs.Kernel.{Kernel}

abbrev pub ours : Kernel
ours = record { Does = Promised; responds = λ n N t q l. (outcome_of n N t q l, refl) }

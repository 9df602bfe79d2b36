-- Every case holds by computation.
use Rattle.std.proofs.Common.{refl}
use Rattle.model.specs.Checks.{check, with_capability, with_integer, with_address, with_code, with_pair}
use Rattle.model.specs.Effects.{effect}
use Rattle.model.specs.Step.{instruction_in, obeyed, request, perform, step}
use Rattle.model.specs.Run.{steps_on, step_faults}
use Rattle.cases.specs.Cases.{CasesHold}

pub all : CasesHold
unfolding check with_capability with_integer with_address with_code with_pair effect instruction_in obeyed request perform step
all = (
  (refl, refl),
  (
    (refl, refl),
    (
      (refl, refl),
      (
        refl,
        (
          (refl, refl),
          (
            (refl, refl),
            (
              refl,
              (
                refl,
                (
                  refl,
                  (
                    refl,
                    (
                      refl,
                      (
                        refl,
                        (
                          refl,
                          (
                            refl,
                            (
                              refl,
                              (
                                refl,
                                (
                                  refl,
                                  (
                                    refl,
                                    (
                                      refl,
                                      (
                                        (_, steps_on refl (step_faults refl)),
                                        tt,
                                      ),
                                    ),
                                  ),
                                ),
                              ),
                            ),
                          ),
                        ),
                      ),
                    ),
                  ),
                ),
              ),
            ),
          ),
        ),
      ),
    ),
  ),
)

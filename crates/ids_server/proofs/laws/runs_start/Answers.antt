use Rattle.ids_server.proofs.laws.runs_start.Goals as goal

pub returns : goal.returns
returns c = λ script found moment. record { served = c.served_at_start.ensures script 1 found; past = tt; timely = tt; settled = tt }

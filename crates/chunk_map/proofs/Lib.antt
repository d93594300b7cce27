pub mod Numbers
pub mod Bodies
pub mod Renewing
pub mod OneNewest

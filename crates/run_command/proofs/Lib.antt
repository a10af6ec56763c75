pub mod InWorlds
pub mod Handing
pub mod StormTexts

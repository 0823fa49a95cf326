mod Capped
